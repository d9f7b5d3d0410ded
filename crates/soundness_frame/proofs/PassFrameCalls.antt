-- A form that calls keeps what is kept, where more is known of the state in which its arguments are made: each argument
-- that has a value brings what is known of it, and leaves what was known of those before.
use Rattle.std.proofs.Common.{◌≡◌, ℕ, Bool, true, false, List, [], ◌∷◌, ◌++◌, append_assoc, Option, refl, ap, sym, subst}
use Rattle.mir_ty.specs.declared.ty.TyId.{TyId}
use Rattle.mir_ty.specs.ItemTable.{ItemTable}
use Rattle.store_model.specs.Effects as effects
use Rattle.store_model.specs.Effects.{EffectSite, Operand, Action, Halt, Effects}
use Rattle.store_model.specs.Places.Place.{Place}
use Rattle.typed_tree.specs.declared.node.Use.{Use}
use Rattle.typed_tree.specs.Tree.{Form}
use Rattle.src_meaning.specs.Evaluation as evaluation
use Rattle.src_meaning.specs.Evaluation.{to_own_key}
use Rattle.src_meaning.specs.Forms as forms
use Rattle.src_meaning.specs.Forms.{Destination, Into, Coerced, LoopsAndGuards, Meaning, is_never, moved, all_moved, keys_of, site_in}
use Rattle.src_meaning.specs.Scopes.{Scopes, innermost, with_pending, without_operands, Value, Breaks, Continues, Returns, Panics, Run, At, Over, Does, ◌>>◌, on_value}
use Rattle.src_meaning.specs.Shape.{Aliases, NodeHead, Shape, head}
use Rattle.soundness_values.proofs.Leaving.{ShownOut}
use Rattle.soundness_frame.proofs.PassWithin.{Outer}
use Rattle.soundness_frame.proofs.PassFrame as frame
use Rattle.soundness_frame.proofs.PassFrameActs.{DestSo, KeepingSo}
use Rattle.soundness_frame.proofs.PassFrameHeads as pass_frame_heads

-- what holds where there is a value
abbrev pub Ends : {V : Type 0} → (V → Type 0) → Run V → Type 0
Ends J (At Value S v) = J v
Ends J (At (Breaks loop) S v) = Unit {0}
Ends J (At (Continues loop) S v) = Unit {0}
Ends J (At Returns S v) = Unit {0}
Ends J (At Panics S v) = Unit {0}
Ends J (Over halt v) = Unit {0}

pub ends_then : {V : Type 0} (J K : V → Type 0) (r : Run V) (next : Does V) → Ends J r → ((S : Scopes) (v : V) → J v →
    Ends K (next S v)) → Ends K (on_value r next)
ends_then J K (At Value S v) next j f = f S v j
ends_then J K (At (Breaks loop) S v) next j f = tt
ends_then J K (At (Continues loop) S v) next j f = tt
ends_then J K (At Returns S v) next j f = tt
ends_then J K (At Panics S v) next j f = tt
ends_then J K (Over halt v) next j f = tt

module _ {V : Type 0} (items : ItemTable) (q : Effects V) (over : Halt → V → Type 0) (Does_ : Action → Type 0)
    (Drops : EffectSite → Type 0) (Store Coerce May : Place → Type 0) (I : V → Type 0)
    (keeping : KeepingSo q over Does_ Drops Store Coerce May I) where
  abbrev Keeps : Does V → Type 0
  Keeps = frame.Keeps items q over Does_ Drops Store Coerce May I keeping

  abbrev KeptAt : ℕ → Run V → Type 0
  KeptAt = frame.KeptAt items q over Does_ Drops Store Coerce May I keeping

  abbrev Fine : Scopes → ℕ → Type 0
  Fine = frame.Fine items q over Does_ Drops Store Coerce May I keeping

  abbrev Cell : ℕ → Type 0
  Cell = frame.Cell items q over Does_ Drops Store Coerce May I keeping

  abbrev Own : ℕ → Type 0
  Own = frame.Own items q over Does_ Drops Store Coerce May I keeping

  pub none_looked_at : (S : Scopes) → Fine S 0
  none_looked_at [] = tt
  none_looked_at (s ∷ S) = tt

  -- what is kept holds there too
  pub kept_ends : (J : V → Type 0) (r : Run V) → KeptAt 0 r → Ends J r → Ends (λ v. I v × J v) r
  kept_ends J (At Value S v) k j = (k.1, j)
  kept_ends J (At (Breaks loop) S v) k j = tt
  kept_ends J (At (Continues loop) S v) k j = tt
  kept_ends J (At Returns S v) k j = tt
  kept_ends J (At Panics S v) k j = tt
  kept_ends J (Over halt v) k j = tt

  -- and then what needs it
  after_ends : (J : V → Type 0) (one next : Does V) → Keeps one → ((S : Scopes) (v : V) → I v → Ends J (one S v)) →
      ((k : ℕ) (S : Scopes) (v : V) → Fine S k → I v → J v → KeptAt k (next S v)) → Keeps (one >> next)
  after_ends J one next o ends n = record { kept = λ k S v f i. by k (one S v) (o.kept k S v f i) (ends S v i) }
    where
      by : (k : ℕ) (r : Run V) → KeptAt k r → Ends J r → KeptAt k (on_value r next)
      by k (At Value S v) h j = n k S v h.0 h.1 j
      by k (At (Breaks loop) S v) h j = h
      by k (At (Continues loop) S v) h j = h
      by k (At Returns S v) h j = h
      by k (At Panics S v) h j = h
      by k (Over halt v) h j = h

  -- ---- arguments, one after the other

  module _ (A : Type 0) (J : List A → V → Type 0) where
    -- each brings what is known of it, where what was known of those before holds
    abbrev pub AllEnd : LoopsAndGuards → List A → List (Meaning V) → List A → Type 0
    AllEnd around es [] [] = Unit {0}
    AllEnd around es (m ∷ ms) (o ∷ os) = ((S : Scopes) (v : V) → I v → J es v →
        Ends (J (es ++ o ∷ [])) (m.evaluate around false (Into m.head.id) S v)) × AllEnd around (es ++ o ∷ []) ms os
    AllEnd around es ms os = ⊥

    one_ends : (around : LoopsAndGuards) (m : Meaning V) (es fs : List A) → ((S : Scopes) (v : V) → I v → J es v →
        Ends (J fs) (m.evaluate around false (Into m.head.id) S v)) → (S : Scopes) (v : V) → I v → J es v →
        Ends (J fs) (forms.operand items q around m S v)
    one_ends around m es fs f S v i j = by m.shape.in_destination
      where
        done : (T : Scopes) → Ends (J fs)
            (on_value (m.evaluate around false (Into m.head.id) T v) (forms.complete items q innermost m.head))
        done T = ends_then (J fs) (J fs) (m.evaluate around false (Into m.head.id) T v)
            (forms.complete items q innermost m.head) (f T v i j) (λ U w k. k)

        by : (b : Bool) → Ends (J fs) ((forms.pending_if items q b innermost m.head
            >> (m.evaluate around false (Into m.head.id) >> forms.complete items q innermost m.head)) S v)
        by true = done (innermost (with_pending (forms.entry_of m.head)) S)
        by false = done S

    pub all_end : (around : LoopsAndGuards) (es : List A) (ms : List (Meaning V)) (os : List A) →
        frame.AllEvaluated items q over Does_ Drops Store Coerce May I keeping around ms → AllEnd around es ms os →
        (S : Scopes) (v : V) → I v → J es v → Ends (J (es ++ os)) (forms.operands items q around ms S v)
    all_end around es [] [] e a S v i j = subst (λ l. J l v) (sym (append_nil es)) j
      where
        append_nil : (es : List A) → es ++ [] ≡ es
        append_nil [] = refl
        append_nil (x ∷ es) = ap (λ l. x ∷ l) (append_nil es)
    all_end around es [] (o ∷ os) e a S v i j = absurd a
    all_end around es (m ∷ ms) [] e a S v i j = absurd a
    all_end around es (m ∷ ms) (o ∷ os) e a S v i j =
        subst (λ l. Ends (J l) (forms.operands items q around (m ∷ ms) S v)) (append_assoc es (o ∷ []) os)
        (ends_then (λ w. I w × J (es ++ o ∷ []) w) (J ((es ++ o ∷ []) ++ os)) (forms.operand items q around m S v)
        (forms.operands items q around ms)
        (kept_ends (J (es ++ o ∷ [])) (forms.operand items q around m S v)
        ((frame.operand_kept items q over Does_ Drops Store Coerce May I keeping around m e.0).kept 0 S v
        (none_looked_at S) i)
        (one_ends around m es (es ++ o ∷ []) a.0 S v i j))
        (λ T w k. all_end around (es ++ o ∷ []) ms os e.1 a.1 T w k.0 k.1))

  -- ---- the call

  delivered : (J : V → Type 0) (h : NodeHead) (action : EffectSite → Action) (to : Destination) → DestSo Store May to
      →
      ((key : ℕ) → Own key → (v : V) → I v → J v → ShownOut over I I (q.act (action (site_in h.id key)) v)) → (k : ℕ)
      (S : Scopes)
      (v : V) → Fine S k → I v → J v → KeptAt k (forms.deliver items q h action to S v)
  delivered J h action (Into key) c acts k S v f i j = frame.in_scopes_kept items q over Does_ Drops Store Coerce May I
      keeping k S
      (q.act (action (site_in h.id key)) v) f (acts key c v i j)
  delivered J h action (Coerced key trait_no to) c acts k S v f i j =
      frame.on_kept items q over Does_ Drops Store Coerce May I keeping k _
      (forms.acts items q (effects.Unsize (site_in h.id to) trait_no (moved h.id key)))
      (frame.in_scopes_kept items q over Does_ Drops Store Coerce May I keeping k S
      (q.act (action (site_in h.id key)) v) f (acts key (keeping.stores _ c.0) v i j))
      (frame.acts_kept items q over Does_ Drops Store Coerce May I keeping
      (effects.Unsize (site_in h.id to) trait_no (moved h.id key)) (c.1, c.0) refl)

  -- a form that acts on all its arguments keeps what is kept, where what it does keeps that once they are made
  pub called_by : (J : V → Type 0) (Says : Aliases → Outer → ℕ → Form → Type 0) (fuel id : ℕ) (ty : TyId) (by : Option
      Use)
      (s : Shape)
      (ms : List (Meaning V)) (action : EffectSite → List Operand → Action) (around : LoopsAndGuards) (own : Bool)
      (to : Destination) → frame.AllEvaluated items q over Does_ Drops Store Coerce May I keeping around ms →
      ((S : Scopes) (v : V) → I v → Ends J (forms.operands items q around ms S v)) →
      ((key : ℕ) → Own key → (v : V) → I v → J v →
      ShownOut over I I (q.act (action (site_in id key) (all_moved id ms)) v)) →
      Cell id → DestSo Store May to →
      Keeps ((evaluation.on_all items q fuel (head id ty by) s ms action).evaluate around own to)
  called_by J Says fuel id ty by s ms action around own to e ends acts c d =
      frame.in_scope_kept items q over Does_ Drops Store Coerce May I keeping id own _
      (after_ends J (forms.operands items q around ms) _
      (frame.operands_kept items q over Does_ Drops Store Coerce May I keeping around ms e) ends
      (λ k S v f i j. delivered J (head id ty by) (λ site. action site (all_moved id ms))
      (to_own_key (is_never items ty) id to)
      (pass_frame_heads.own_dest items q over Does_ Drops Store Coerce May I keeping Says fuel (is_never items ty) id to c d)
      acts k
      (innermost (without_operands (keys_of ms)) S) v
      (frame.fine_innermost items q over Does_ Drops Store Coerce May I keeping (without_operands (keys_of ms))
      (frame.untaken items q over Does_ Drops Store Coerce May I keeping (keys_of ms)) S k f) i j))
