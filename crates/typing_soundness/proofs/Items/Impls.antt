-- Impls of an accepted text: no two are of one trait and one struct or enum.
use Rattle.std.proofs.Common.{◌≡◌, ℕ, Bool, true, false, ◌&&◌, ◌||◌, ◌==◌, not, List, [], ◌∷◌, ◌++◌, slice_get, Some, None, Result, Ok, Err, IsTrue, refl, ap, sym, subst, ◌∙◌}
use Rattle.std.specs.Prelude.{codes, is_some, nat_le, option_and_then, if◌then◌else◌}
use Rattle.std.specs.List.{list_any, filter_map}
use Rattle.std.specs.Str.{bytes_eq}
use Rattle.std.proofs.lemmas.Bool.{false≢true, and_from, and_parts, eqb-true}
use Rattle.std.proofs.lemmas.List.{append_assoc, append-nil}
use Rattle.std.proofs.lemmas.Option.{same_Some}
use Rattle.std.proofs.lemmas.Slice.Eq.{bytes_eq-Decides}
use Rattle.mir_base.specs.declared.place_in_text.Pos.{Pos}
use Rattle.mir_base.specs.declared.rule.Rule.{Rule}
use Rattle.mir_ty.specs.declared.def.ImplDef.{ImplDef}
use Rattle.mir_ty.specs.declared.def.TraitDef.{TraitDef}
use Rattle.mir_ty.specs.ItemTable.{ItemTable}
use Rattle.src_tree.specs.Layout.{Parts}
use Rattle.typed_tree.specs.Tree.{ProgramTree}
use Rattle.typing_rules.specs.Check.{Check, TypingState, Broken, and_then, known, each_checked}
use Rattle.typing_rules.specs.Collected as rules
use Rattle.typing_rules.specs.Items.{ItemSyn, items_of, item_syns, body_paths}
use Rattle.typing_rules.specs.Program as checks
use Rattle.typing_rules.specs.Promises.{Extends}
use Rattle.typing_rules.specs.Scope.{Env, adt_named, body_named}
use Rattle.typing_rules.specs.Written as types
use Rattle.src_ast.specs.Syntax.{Word, Syn, syn, AnItem, StructItem, EnumItem, TraitItem, ImplItem, FnItem, list_of}
use Rattle.typing_soundness.specs.Items.{is_impl_of, are_distinct_impls}
use Rattle.typing_soundness.specs.Program.{IsAccepted}
use Rattle.typing_soundness.specs.Walks.{Walked}
use Rattle.typing_soundness.proofs.Bodies.Order.{no_ok}
use Rattle.typing_soundness.proofs.Bodies.Program.{bodies_typed}
use Rattle.typing_soundness.proofs.Items.Accepting.{are_collected}
use Rattle.typing_soundness.proofs.Items.Collected.{word_at, finite_still, derive_still, obeyed_still, names_still}
use Rattle.typing_soundness.proofs.Items.Headed.{ok_same, no_ok as no_items_ok}
use Rattle.typing_soundness.proofs.Items.Traits.{items_add}
use Rattle.typing_soundness.proofs.Walking.Lawful.{whatever}
use Rattle.typing_soundness.proofs.Walking.Params.{onward}
use Rattle.typing_soundness.proofs.Walking.Steps.{walk, walk_map, walk_obeyed, walk_found, walk_ends, SameWalk}

-- ---- impls in the order of the text

module _ (k : rules.Known) where
  abbrev pub IsImplOf : List TraitDef → Syn → ImplDef → Type 0
  IsImplOf traits (syn at (AnItem (ImplItem (Some trait_) name methods))) def =
      (types.number_of k.traits trait_.1 ≡ Some def.trait_no) × (types.number_of k.adts name.1 ≡ Some def.adt) × (def.bodies ≡
      rules.impl_bodies k.paths name.1 trait_.1 (rules.methods_of (slice_get traits def.trait_no)))
  IsImplOf traits _ def = ⊥

  abbrev pub AreImplsOf : List TraitDef → List Syn → List ImplDef → Type 0
  AreImplsOf traits [] [] = Unit {0}
  AreImplsOf traits (i ∷ is) (def ∷ defs) = IsImplOf traits i def × AreImplsOf traits is defs
  AreImplsOf traits _ _ = ⊥

  impls_joined : (traits : List TraitDef) (is js : List Syn) (as_ bs : List ImplDef) → AreImplsOf traits is as_ → AreImplsOf traits
      js bs → AreImplsOf traits (is ++ js) (as_ ++ bs)
  impls_joined traits [] js [] bs h g = g
  impls_joined traits [] js (a ∷ as_) bs h g = absurd h
  impls_joined traits (i ∷ is) js [] bs h g = absurd h
  impls_joined traits (i ∷ is) js (a ∷ as_) bs h g = (h.0, impls_joined traits is js as_ bs h.1 g)

  record AddsImpls (is : List Syn) (s t : TypingState) : Type 0 where
    traits : t.items.traits ≡ s.items.traits
    new : List ImplDef
    impls : t.items.impls ≡ s.items.impls ++ new
    are : AreImplsOf s.items.traits is new

  adds_no_impl : (s : TypingState) → AddsImpls [] s s
  adds_no_impl s = record { traits = refl; new = []; impls = sym (append-nil s.items.impls); are = tt }

  adds_all : {is js : List Syn} {s t u : TypingState} → AddsImpls is s t → AddsImpls js t u → AddsImpls (is ++ js) s u
  adds_all {is} {js} {s} {t} {u} p q = record {
    traits = q.traits ∙ p.traits;
    new = p.new ++ q.new;
    impls = q.impls ∙ (ap (λ ds. ds ++ q.new) p.impls ∙ append_assoc s.items.impls p.new q.new);
    are = impls_joined s.items.traits is js p.new q.new p.are (subst (λ traits. AreImplsOf traits js q.new) p.traits q.are);
  }

  -- those of traits but `Drop`
  abbrev pub unless_drop : Bool → Syn → List Syn
  unless_drop drops i = if drops then [] else (i ∷ [])

  abbrev pub impls_in : Syn → List Syn
  impls_in (syn at (AnItem (ImplItem (Some trait_) name methods))) =
      unless_drop (rules.is_drop trait_.1) (syn at (AnItem (ImplItem (Some trait_) name methods)))
  impls_in _ = []

  abbrev pub all_impls : List Syn → List Syn
  all_impls [] = []
  all_impls (i ∷ is) = impls_in i ++ all_impls is

  impl_adds : (i : Syn) (s : TypingState) → Walked (λ _ t. AddsImpls (impls_in i) s t) (rules.impl_of k i s)
  impl_adds (syn at (AnItem (ImplItem (Some trait_) name methods))) s = by (rules.is_drop trait_.1)
    where
      added : Check (Unit {0})
      added t =
          and_then (known Rule.T01 trait_.0 (types.number_of k.traits trait_.1) t) (λ n u. and_then (known Rule.T01 name.0
          (types.number_of k.adts name.1) u) (λ adt. rules.impl_added k n adt trait_.1 name.1))

      by : (b : Bool) → Walked (λ _ t. AddsImpls (unless_drop b (syn at (AnItem (ImplItem (Some trait_) name methods)))) s t) ((if b then
          (λ t. Ok (tt, t)) else added) s)
      by true = walk_ends (adds_no_impl s)
      by false =
          walk_found Rule.T01 trait_.0 (types.number_of k.traits trait_.1) _ λ n is. walk_found Rule.T01 name.0
          (types.number_of k.adts name.1) _ λ adt at_adt. walk_ends (record {
            traits = refl;
            new = _ ∷ [];
            impls = refl;
            are = ((is, at_adt, refl), tt);
          })
  impl_adds (syn at (AnItem (ImplItem None name methods))) s = walk_ends (adds_no_impl s)
  impl_adds (syn at _) s = walk_ends (adds_no_impl s)

  impls_add : (is : List Syn) (s : TypingState) → Walked (λ _ t. AddsImpls (all_impls is) s t) (each_checked (rules.impl_of k) is
      s)
  impls_add [] s = walk_ends (adds_no_impl s)
  impls_add (i ∷ is) s =
      walk (impl_adds i s) λ _ t e. walk (impls_add is t) λ _ u g. walk_ends (adds_all e g)

abbrev AreAllImpls : List ItemSyn → ItemTable → Type 0
AreAllImpls is items = AreImplsOf (rules.known_of is) items.traits (all_impls (rules.known_of is) (item_syns is)) items.impls

collecting_impls : (is : List ItemSyn) (end : Pos) → Walked (λ _ t. AreAllImpls is t.items) (rules.collecting is end
    (rules.starting_with rules.no_items))
collecting_impls is end =
    walk (names_still (filter_map rules.item_name (item_syns is)) [] start) λ _ t e. walk (items_add (rules.known_of is)
    (record { outer = []; in_outer = 0; closures = 0 }) is t) λ _ u h. walk (impls_add (rules.known_of is) (item_syns is) u)
    λ _ v f. walk (finite_still 0 (filter_map rules.adt_item (item_syns is)) v) λ _ w g. walk (derive_still
    (rules.drop_owners is) 0 (filter_map
    rules.adt_item (item_syns is)) w) λ _ x d. walk_map (obeyed_still Rule.T01 end (is_some (types.number_of (body_paths is)
    (codes "main"))) x) λ _ y o. there (h.impls ∙ e.stays.impls) f (onward g (onward d o))
  where
    start : TypingState
    start = rules.starting_with rules.no_items

    there : {u v y : TypingState} → u.items.impls ≡ [] → AddsImpls (rules.known_of is) (all_impls (rules.known_of is) (item_syns is)) u
        v → SameWalk v y → AreAllImpls is y.items
    there {u} {v} {y} none f e =
        subst (λ traits. AreImplsOf (rules.known_of is) traits (all_impls (rules.known_of is) (item_syns is)) y.items.impls) (sym
        (e.stays.traits ∙ f.traits)) (subst (AreImplsOf (rules.known_of is) u.items.traits (all_impls (rules.known_of is)
        (item_syns is))) (sym (e.stays.impls ∙ (f.impls ∙ ap (λ ds. ds ++ f.new) none))) f.are)

-- ---- what the rule on impls asks

abbrev ImplKept : checks.Seen → Syn → Type 0
ImplKept seen (syn at (AnItem (ImplItem (Some trait_) name methods))) = IsTrue (not (checks.is_seen name.1 trait_.1 seen))
ImplKept seen _ = Unit {0}

abbrev behind : Syn → checks.Seen → checks.Seen
behind (syn at (AnItem (ImplItem (Some trait_) name methods))) seen = (name.1, trait_.1) ∷ seen
behind _ seen = seen

abbrev ImplsKept : checks.Seen → List Syn → Type 0
ImplsKept seen [] = Unit {0}
ImplsKept seen (i ∷ is) = ImplKept seen i × ImplsKept (behind i seen) is

impl_kept : (env : Env) (before : checks.Before) (i : Syn) (s : TypingState) → Walked (λ next t. ImplKept before.impls i × (next.impls ≡
    behind i before.impls)) (checks.item_rules env before i s)
impl_kept env before (syn at (AnItem (StructItem ds name kind fs))) s =
    walk (whatever {P = Unit {0}} (checks.fields (checks.in_impl env (adt_named s.items name.1)) [] (list_of fs) s) tt) λ _ t
    _. walk_obeyed Rule.T19 at (nat_le (checks.count_of fs) 32) _ λ _. walk_ends (tt, refl)
impl_kept env before (syn at (AnItem (EnumItem ds name vs))) s =
    walk (whatever {P = Unit {0}} (checks.variants (checks.in_impl env (adt_named s.items name.1)) [] (list_of vs) s) tt) λ _
    t _. walk_obeyed Rule.T19 at (nat_le (checks.count_of vs) 64) _ λ _. walk_ends (tt, refl)
impl_kept env before (syn at (AnItem (TraitItem name heads))) s =
    walk (whatever {P = Unit {0}} (checks.trait_heads env [] (list_of heads) s) tt) λ _ t _. walk_ends (tt, refl)
impl_kept env before (syn at (AnItem (ImplItem (Some trait_) name methods))) s =
    walk (whatever {P = Unit {0}} (checks.method_heads (checks.in_impl env (adt_named s.items name.1)) (Some trait_) name.1
    before.methods (list_of methods) s) tt) λ seen t _. walk_obeyed Rule.T11 at (not (checks.is_seen name.1 trait_.1
    before.impls) && checks.has_all (checks.asked_for s.items (Some trait_)) (checks.method_names methods)) _ λ h. walk_ends
    ((and_parts (not (checks.is_seen name.1 trait_.1 before.impls)) _ h).0, refl)
impl_kept env before (syn at (AnItem (ImplItem None name methods))) s =
    walk (whatever {P = Unit {0}} (checks.method_heads (checks.in_impl env (adt_named s.items name.1)) None name.1
    before.methods (list_of methods) s) tt) λ seen t _. walk_ends (tt, refl)
impl_kept env before (syn at (AnItem (FnItem name params answer block))) s =
    walk (whatever {P = Unit {0}} (checks.head_rules env params answer s) tt) λ _ t _. walk {f = λ _ u. Ok (before, u)}
    (whatever {P = Unit {0}} (checks.main_rule at name.1 params t.items (option_and_then (slice_get t.items.bodies)
    (body_named t.items name.1)) t) tt) λ _ u _. walk_ends (tt, refl)
impl_kept env before (syn at _) s = record { so = tt }

impls_kept : (env : Env) (before : checks.Before) (is : List Syn) (s : TypingState) → Walked (λ a t. ImplsKept before.impls is)
    (checks.all_items env before is s)
impls_kept env before [] s = walk_ends tt
impls_kept env before (i ∷ is) s =
    walk (impl_kept env before i s) λ next t h. walk (whatever {P = Unit {0}} (checks.bodies_of env i t) tt) λ _ u _.
    walk_map (impls_kept env next is u) λ a v g. (h.0, subst (λ seen. ImplsKept seen is) h.1 g)

-- ---- numbers and names

same_word : (a b : Word) → bytes_eq a b ≡ true → a ≡ b
same_word a b h = (bytes_eq-Decides a b).0 h

word_self : (a : Word) → bytes_eq a a ≡ true
word_self a = (bytes_eq-Decides a a).1 refl

one_word : (ws : List Word) (v w : Word) (n m : ℕ) → types.number_of ws v ≡ Some n → types.number_of ws w ≡ Some m → (n == m) ≡
    true → v ≡ w
one_word ws v w n m h g e =
    same_Some v w (sym (word_at ws v n h) ∙ (ap (slice_get ws) (eqb-true n m e) ∙ word_at ws w m g))

-- ---- no two of one trait and one struct or enum

module _ (k : rules.Known) (traits : List TraitDef) where
  -- what came before is none of the later ones
  module _ (owner trait_ : Word) (a : ImplDef) (is_trait : types.number_of k.traits trait_ ≡ Some a.trait_no) (is_owner :
      types.number_of k.adts owner ≡ Some a.adt) where
    same_impl : (seen : checks.Seen) (other word : Word) (b : ImplDef) → types.number_of k.traits word ≡ Some b.trait_no →
        types.number_of k.adts other ≡ Some b.adt → checks.is_seen owner trait_ seen ≡ true → IsTrue (not (checks.is_seen other
        word seen)) → is_impl_of a b ≡ false
    same_impl seen other word b t o has no_ = by (is_impl_of a b) refl
      where
        by : (c : Bool) → is_impl_of a b ≡ c → c ≡ false
        by false e = refl
        by true e =
            let p = and_parts (a.trait_no == b.trait_no) _ e in
            let w = one_word k.traits trait_ word a.trait_no b.trait_no is_trait t p.0 in
            let v = one_word k.adts owner other a.adt b.adt is_owner o p.1 in
            absurd (false≢true (sym (ap not (sym (λ i. checks.is_seen (v i) (w i) seen) ∙ has)) ∙ no_))

    seen_later : (i : Syn) (seen : checks.Seen) → checks.is_seen owner trait_ seen ≡ true → checks.is_seen owner trait_ (behind i
        seen) ≡ true
    seen_later (syn at (AnItem (ImplItem (Some t) name methods))) seen has = by (bytes_eq name.1 owner && bytes_eq t.1 trait_)
      where
        by : (b : Bool) → (b || checks.is_seen owner trait_ seen) ≡ true
        by true = refl
        by false = has
    seen_later (syn at _) seen has = has

    -- one impl, and those behind it
    abbrev Apart : List Syn → List ImplDef → Type 0
    Apart is defs = AreImplsOf k traits is defs → list_any (is_impl_of a) defs ≡ false

    one_apart : (seen : checks.Seen) → checks.is_seen owner trait_ seen ≡ true → (i : Syn) → ImplKept seen i → (is : List Syn) →
        ((defs : List ImplDef) → Apart is defs) → (defs : List ImplDef) → Apart (impls_in k i ++ is) defs
    one_apart seen has (syn at (AnItem (ImplItem (Some t) name methods))) no_ is rest defs are =
        by (rules.is_drop t.1) defs are
      where
        by : (b : Bool) (defs : List ImplDef) → Apart (unless_drop k b (syn at (AnItem (ImplItem (Some t) name methods))) ++ is) defs
        by true defs are = rest defs are
        by false [] are = refl
        by false (d ∷ defs) are =
            ap (λ c. c || list_any (is_impl_of a) defs) (same_impl seen name.1 t.1 d are.0.0 are.0.1 has no_) ∙ rest defs are.1
    one_apart seen has (syn at _) no_ is rest defs are = rest defs are

    all_apart : (seen : checks.Seen) → checks.is_seen owner trait_ seen ≡ true → (is : List Syn) → ImplsKept seen is → (defs :
        List ImplDef) → Apart (all_impls k is) defs
    all_apart seen has [] kept [] are = refl
    all_apart seen has [] kept (d ∷ defs) are = absurd are
    all_apart seen has (i ∷ is) kept defs are =
        one_apart seen has i kept.0 (all_impls k is) (all_apart (behind i seen) (seen_later i seen has) is kept.1) defs are

  abbrev AreApart : List Syn → List ImplDef → Type 0
  AreApart is defs = AreImplsOf k traits is defs → IsTrue (are_distinct_impls defs)

  first_apart : (seen : checks.Seen) (i : Syn) (is : List Syn) → ImplsKept (behind i seen) is → ((defs : List ImplDef) →
      AreApart (all_impls k is) defs) → (defs : List ImplDef) → AreApart (impls_in k i ++ all_impls k is) defs
  first_apart seen (syn at (AnItem (ImplItem (Some t) name methods))) is kept rest defs are = by (rules.is_drop t.1) defs are
    where
      by : (b : Bool) (defs : List ImplDef) → AreApart (unless_drop k b (syn at (AnItem (ImplItem (Some t) name methods))) ++ all_impls k
          is) defs
      by true defs are = rest defs are
      by false [] are = refl
      by false (d ∷ defs) are =
          and_from (not (list_any (is_impl_of d) defs)) _ (ap not (all_apart name.1 t.1 d are.0.0 are.0.1 ((name.1, t.1) ∷
          seen) (ap (λ b. b || checks.is_seen name.1 t.1 seen) (and_from (bytes_eq name.1 name.1) _ (word_self name.1)
          (word_self t.1))) is kept defs are.1)) (rest defs are.1)
  first_apart seen (syn at _) is kept rest defs are = rest defs are

  impls_apart : (seen : checks.Seen) (is : List Syn) → ImplsKept seen is → (defs : List ImplDef) → AreApart (all_impls k is)
      defs
  impls_apart seen [] kept [] are = refl
  impls_apart seen [] kept (d ∷ defs) are = absurd are
  impls_apart seen (i ∷ is) kept defs are =
      first_apart seen i is kept.1 (impls_apart (behind i seen) is kept.1) defs are

-- ---- the whole

module _ (parts : Parts Pos) (items : ItemTable) (p : ProgramTree) (h : IsAccepted parts items p) where
  abbrev texts : List Syn
  texts = item_syns (items_of parts)

  extends : Extends items p.items
  extends = (bodies_typed parts items p (are_collected parts items p h) h.checked).0

  kept : ImplsKept [] texts
  kept = by _ (impls_kept (checks.outermost texts) (record { methods = []; impls = [] }) texts (rules.starting_with items))
      h.checked
    where
      by : (r : Result (Unit {0} × TypingState) Broken) → Walked (λ a t. ImplsKept [] texts) r → checks.program_in r ≡ Ok p →
          ImplsKept [] texts
      by (Ok a) w e = w.so
      by (Err x) w e = absurd (no_ok x p e)

  pub impls_of_text : AreAllImpls (items_of parts) items
  impls_of_text = by _ (collecting_impls (items_of parts) h.end) h.collected
    where
      by : (r : Result (Unit {0} × TypingState) Broken) → Walked (λ _ t. AreAllImpls (items_of parts) t.items) r → rules.items_in r
          ≡ Ok items → AreAllImpls (items_of parts) items
      by (Ok a) w e = subst (AreAllImpls (items_of parts)) (ok_same a.1.items items e) w.so
      by (Err x) w e = absurd (no_items_ok x e)

  pub text_impls : IsTrue (are_distinct_impls p.items.impls)
  text_impls =
      subst (λ defs. IsTrue (are_distinct_impls defs)) (sym extends.impls) (impls_apart (rules.known_of (items_of parts))
      items.traits [] texts kept items.impls impls_of_text)
