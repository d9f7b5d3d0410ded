-- The names of traits and of bodies in the table of a text, as they are collected.
use Rattle.std.proofs.Common.{◌≡◌, ◌+◌, false, ◌||◌, not, List, [], ◌∷◌, ◌++◌, map, length, Option, Some, None, Result, Ok, Err, IsTrue, refl, ap, sym, subst, ◌∙◌}
use Rattle.std.specs.Prelude.{codes, is_some}
use Rattle.std.specs.List.{filter_map}
use Rattle.std.proofs.lemmas.List.{append_assoc, append-nil, map-append}
use Rattle.mir_base.specs.declared.place_in_text.Pos.{Pos}
use Rattle.mir_base.specs.declared.rule.Rule.{Rule}
use Rattle.mir_ty.specs.declared.def.Sig.{Sig}
use Rattle.mir_ty.specs.declared.def.TraitDef.{TraitDef}
use Rattle.mir_ty.specs.declared.ty.Ty.{Ty}
use Rattle.mir_ty.specs.ItemTable.{ItemTable}
use Rattle.src_tree.specs.Layout.{Parts}
use Rattle.well_typed.specs.Names.{is_among, built_in}
use Rattle.typing_rules.specs.Check.{TypingState, Broken}
use Rattle.typing_rules.specs.Collected as rules
use Rattle.typing_rules.specs.Items.{ItemSyn, items_of, item_syns, body_paths, impl_owner, full_name, closure_name}
use Rattle.typing_rules.specs.Written as types
use Rattle.src_ast.specs.Syntax.{Word, Named, Syn, syn, AnExpression, AnItem, MoveOf, StructItem, EnumItem, TraitItem, ImplItem, FnItem, list_of}
use Rattle.typing_soundness.specs.Walks.{Walked}
use Rattle.typing_soundness.proofs.Items.Collected.{all_names, SameHeads, same_heads, same_both, impls_same, finite_still, derive_still, obeyed_still, derives_still, names_still, each_still, variant_collected, variants_collected, trait_head_still, closure_params_collected, closure_answer_collected, sig_collected}
use Rattle.typing_soundness.proofs.Items.Distinct.{names_of}
use Rattle.typing_soundness.proofs.Items.Headed.{ok_same, no_ok}
use Rattle.typing_soundness.proofs.Walking.Lawful.{whatever}
use Rattle.typing_soundness.proofs.Walking.Params.{still, onward}
use Rattle.typing_soundness.proofs.Walking.Steps.{walk, walk_map, walk_obeyed, walk_ends, walk_interned_as, SameWalk}

-- ---- bodies as an item lists them: functions and methods by their whole names, and closures

abbrev pub bodies_called : Option Word → List Syn → List (Option Word)
bodies_called owner [] = []
bodies_called owner (syn at (AnItem (FnItem name params answer block)) ∷ bs) =
    Some (full_name owner name.1) ∷ bodies_called owner bs
bodies_called owner (syn at (AnExpression (MoveOf captures params answer body)) ∷ bs) = None ∷ bodies_called owner bs
bodies_called owner (syn at _ ∷ bs) = bodies_called owner bs

abbrev pub all_called : List ItemSyn → List (Option Word)
all_called [] = []
all_called (i ∷ is) = bodies_called (impl_owner i.item) i.bodies ++ all_called is

abbrev pub traits_called : Syn → List Word
traits_called (syn at (AnItem (TraitItem name heads))) = name.1 ∷ []
traits_called _ = []

abbrev pub all_traits_called : List ItemSyn → List Word
all_traits_called [] = []
all_traits_called (i ∷ is) = traits_called i.item ++ all_traits_called is

-- ---- what a step of the collection adds

abbrev pub heads_of : TypingState → List Word
heads_of s = map (λ (sig : Sig). sig.name) s.items.bodies

abbrev pub traits_of : TypingState → List Word
traits_of s = map (λ (def : TraitDef). def.name) s.items.traits

-- from one state to a later one come the names of these bodies and traits
record Calls (fs : List (Option Word)) (ts : List Word) (c d : rules.Count) (s t : TypingState) : Type 0 where
  new : List Word
  heads : heads_of t ≡ heads_of s ++ new
  names : (rest : List (Option Word)) → names_of c.outer c.in_outer (fs ++ rest) ≡ new ++ names_of d.outer d.in_outer rest
  traits : traits_of t ≡ traits_of s ++ ts

calls_none : (c : rules.Count) {s t : TypingState} → t.items.bodies ≡ s.items.bodies → t.items.traits ≡ s.items.traits → Calls [] [] c
    c s t
calls_none c {s} {t} heads traits = record {
  new = [];
  heads = ap (map (λ (sig : Sig). sig.name)) heads ∙ sym (append-nil (heads_of s));
  names = λ rest. refl;
  traits = ap (map (λ (def : TraitDef). def.name)) traits ∙ sym (append-nil (traits_of s));
}

calls_still : (c : rules.Count) {s t : TypingState} → SameWalk s t → Calls [] [] c c s t
calls_still c e = calls_none c e.stays.heads e.stays.traits

calls_both : {fs gs : List (Option Word)} {ts us : List Word} {c d e : rules.Count} {s t u : TypingState} → Calls fs ts c d s t → Calls
    gs us d e t u → Calls (fs ++ gs) (ts ++ us) c e s u
calls_both {fs} {gs} {ts} {us} {c} {d} {e} {s} {t} {u} p q = record {
  new = p.new ++ q.new;
  heads = q.heads ∙ (ap (λ hs. hs ++ q.new) p.heads ∙ append_assoc (heads_of s) p.new q.new);
  names = λ rest.
      ap (names_of c.outer c.in_outer) (append_assoc fs gs rest) ∙ (p.names (gs ++ rest) ∙ (ap (λ ns. p.new ++ ns) (q.names
      rest) ∙ sym (append_assoc p.new q.new (names_of e.outer e.in_outer rest))));
  traits = q.traits ∙ (ap (λ ws. ws ++ us) p.traits ∙ append_assoc (traits_of s) ts us);
}

-- one more head
called : (fs : List (Option Word)) (c d : rules.Count) (name : Word) → ((rest : List (Option Word)) → names_of c.outer c.in_outer
    (fs ++ rest) ≡ name ∷ names_of d.outer d.in_outer rest) → {s t : TypingState} → SameWalk s t → (sig : Sig) → sig.name ≡ name →
    (u : TypingState) → u.items.bodies ≡ t.items.bodies ++ sig ∷ [] → u.items.traits ≡ t.items.traits → Calls fs [] c d s u
called fs c d name is {s} {t} e sig named u heads traits = record {
  new = name ∷ [];
  heads = ap (map (λ (x : Sig). x.name)) heads ∙ (map-append (λ (x : Sig). x.name) t.items.bodies (sig ∷ []) ∙ (ap (λ hs. map (λ
      (x : Sig). x.name) hs ++ sig.name ∷ []) e.stays.heads ∙ ap (λ w. heads_of s ++ w ∷ []) named));
  names = is;
  traits = ap (map (λ (def : TraitDef). def.name)) (traits ∙ e.stays.traits) ∙ sym (append-nil (traits_of s));
}

-- ---- the collection

module _ (k : rules.Known) where
  body_calls : (owner : Option Word) (c : rules.Count) (b : Syn) (s : TypingState) → Walked (λ d t. Calls (bodies_called owner (b ∷
      [])) [] c d s t) (rules.body_sig k owner c b s)
  body_calls owner c (syn at (AnItem (FnItem name params answer block))) s =
      walk (sig_collected (all_names k owner) at (full_name owner name.1) params answer s) λ sig t h. walk_ends (called (Some
      (full_name owner name.1) ∷ []) c (record c { outer = full_name owner name.1; in_outer = 0 }) (full_name owner name.1) (λ
      rest. refl) h.0 sig h.2 _ refl refl)
  body_calls owner c (syn at (AnExpression (MoveOf captures params answer body))) s =
      walk {f = λ _ t. Ok (record c { in_outer = c.in_outer + 1; closures = c.closures + 1 }, t)} head λ _ t h. walk_ends h
    where
      given : Walked (λ tys t. SameWalk s t) (rules.closure_params (record (all_names k owner) { has_limits = false })
          c.closures params s)
      given =
          walk_interned_as (Ty.Closure c.closures) s λ self t e is. walk (closure_params_collected (all_names k owner)
          params t) λ tys u h. walk_ends (onward e h.0)

      head : Walked (λ _ t. Calls (None ∷ []) [] c (record c { in_outer = c.in_outer + 1; closures = c.closures + 1 }) s t)
          (rules.closure_head (record (all_names k owner) { has_limits = false }) c.closures (closure_name c.outer (c.in_outer +
          1)) params answer s)
      head =
          walk given λ tys t h. walk (closure_answer_collected (all_names k owner) answer t) λ ty u g. walk_ends (called (None
          ∷ []) c (record c { in_outer = c.in_outer + 1; closures = c.closures + 1 }) (closure_name c.outer (c.in_outer + 1))
          (λ rest. refl) (onward h g.0) _ refl _ refl refl)
  body_calls owner c (syn at _) s = record { so = tt }

  -- one body, and others
  bodies_with : (owner : Option Word) (b : Syn) (bs : List Syn) → bodies_called owner (b ∷ []) ++ bodies_called owner bs ≡
      bodies_called owner (b ∷ bs)
  bodies_with owner (syn at (AnItem (FnItem name params answer block))) bs = refl
  bodies_with owner (syn at (AnExpression (MoveOf captures params answer body))) bs = refl
  bodies_with owner (syn at _) bs = refl

  bodies_call : (owner : Option Word) (c : rules.Count) (bs : List Syn) (s : TypingState) → Walked (λ d t. Calls (bodies_called owner
      bs) [] c d s t) (rules.body_sigs k owner c bs s)
  bodies_call owner c [] s = walk_ends (calls_still c (still s))
  bodies_call owner c (b ∷ bs) s =
      walk (body_calls owner c b s) λ d t h. walk_map (bodies_call owner d bs t) λ e u g. subst (λ fs. Calls fs [] c e s u)
      (bodies_with owner b bs) (calls_both h g)

  item_calls : (c : rules.Count) (i : Syn) (s : TypingState) → Walked (λ _ t. Calls [] (traits_called i) c c s t) (rules.item_head k i
      s)
  item_calls c (syn at (AnItem (StructItem ds name kind fields))) s =
      walk (derives_still ds s) λ _ t e. walk (variant_collected (rules.names_alone k (types.number_of k.adts name.1)) name.1
      fields t) λ v u g. walk_ends (let w = onward e g.0 in calls_none c w.stays.heads w.stays.traits)
  item_calls c (syn at (AnItem (EnumItem ds name variants))) s =
      walk (derives_still ds s) λ _ t e. walk (variants_collected (rules.names_alone k (types.number_of k.adts name.1))
      variants t) λ vs u g. walk_ends (let w = onward e g.0 in calls_none c w.stays.heads w.stays.traits)
  item_calls c (syn at (AnItem (TraitItem name heads))) s =
      walk_interned_as (Ty.Dyn (length s.items.traits)) s λ own t e is. walk (each_still (rules.trait_head (rules.names_alone k
      None) own) (trait_head_still (rules.names_alone k None) own) (list_of heads) t) λ sigs u g. walk_ends (let w = onward e g
      in record {
        new = [];
        heads = ap (map (λ (sig : Sig). sig.name)) w.stays.heads ∙ sym (append-nil (heads_of s));
        names = λ rest. refl;
        traits = map-append (λ (def : TraitDef). def.name) u.items.traits (record { name = name.1; methods = sigs } ∷ []) ∙ ap (λ
            defs. map (λ (def : TraitDef). def.name) defs ++ name.1 ∷ []) w.stays.traits;
      })
  item_calls c (syn at (AnItem (ImplItem None name methods))) s =
      walk_map (obeyed_still Rule.T01 name.0 (is_some (types.number_of k.adts name.1)) s) λ _ t e. calls_still c e
  item_calls c (syn at (AnItem (ImplItem (Some trait_) name methods))) s =
      walk_obeyed Rule.T01 trait_.0 (rules.is_drop trait_.1 || is_some (types.number_of k.traits trait_.1)) _ λ _. walk_map
      (obeyed_still Rule.T01 name.0 (is_some (types.number_of k.adts name.1)) s) λ _ t e. calls_still c e
  item_calls c (syn at _) s = walk_ends (calls_still c (still s))

  items_call : (c : rules.Count) (is : List ItemSyn) (s : TypingState) → Walked (λ _ t. (d : rules.Count) × Calls (all_called is)
      (all_traits_called is) c d s t) (rules.heads_collected k c is s)
  items_call c [] s = walk_ends (c, calls_still c (still s))
  items_call c (i ∷ is) s =
      walk (item_calls c i.item s) λ _ t h. walk (bodies_call (impl_owner i.item) c i.bodies t) λ d u g. walk_map (items_call d
      is u) λ _ v f. (
        f.0,
        calls_both h (calls_both g f.1),
      )

-- what is called in a table
pub record AreCalled (is : List ItemSyn) (items : ItemTable) : Type 0 where
  pub heads : map (λ (sig : Sig). sig.name) items.bodies ≡ names_of [] 0 (all_called is)
  pub traits : map (λ (def : TraitDef). def.name) items.traits ≡ all_traits_called is

collecting_calls : (is : List ItemSyn) (end : Pos) → Walked (λ _ t. AreCalled is t.items) (rules.collecting is end
    (rules.starting_with rules.no_items))
collecting_calls is end =
    walk (names_still (filter_map rules.item_name (item_syns is)) [] start) λ _ t e. walk (items_call (rules.known_of is) first is
    t) λ _ u h. walk (impls_same (rules.known_of is) (item_syns is) u) λ _ v f. walk (finite_still 0 (filter_map rules.adt_item
    (item_syns is)) v) λ _ w g. walk (derive_still (rules.drop_owners is) 0 (filter_map rules.adt_item (item_syns is))
    w) λ _ x d. walk_map
    (obeyed_still Rule.T01 end (is_some (types.number_of (body_paths is) (codes "main"))) x) λ _ y o. there (calls_both
    (calls_still first e) h.1) (same_both f (same_heads (onward g (onward d o))))
  where
    start : TypingState
    start = rules.starting_with rules.no_items

    first : rules.Count
    first = record { outer = []; in_outer = 0; closures = 0 }

    there : {d : rules.Count} {u y : TypingState} → Calls (all_called is) (all_traits_called is) (record {
      outer = [];
      in_outer = 0;
      closures = 0;
    }) d (rules.starting_with rules.no_items) u → SameHeads u y → AreCalled is y.items
    there {d} {u} {y} h s = record {
      heads = ap (map (λ (sig : Sig). sig.name)) s.heads ∙ (h.heads ∙ (sym (append-nil h.new) ∙ (sym (h.names []) ∙ ap (names_of
          [] 0) (append-nil (all_called is)))));
      traits = ap (map (λ (def : TraitDef). def.name)) s.traits ∙ h.traits;
    }

pub are_called : (parts : Parts Pos) (end : Pos) (items : ItemTable) → rules.collected parts end ≡ Ok items → AreCalled (items_of
    parts) items
are_called parts end items e =
    by (rules.collecting (items_of parts) end (rules.starting_with rules.no_items)) (collecting_calls (items_of parts) end) e
  where
    by : (r : Result (Unit {0} × TypingState) Broken) → Walked (λ _ t. AreCalled (items_of parts) t.items) r → rules.items_in r ≡ Ok
        items → AreCalled (items_of parts) items
    by (Ok a) w e = subst (AreCalled (items_of parts)) (ok_same a.1.items items e) w.so
    by (Err x) w e = absurd (no_ok x e)

-- ---- what the rule on names asks

abbrev pub NamesKept : List Named → List Word → Type 0
NamesKept [] earlier = Unit {0}
NamesKept (n ∷ ns) earlier =
    IsTrue (not (is_among n.1 earlier || is_among n.1 built_in)) × NamesKept ns (earlier ++ n.1 ∷ [])

names_kept : (ns : List Named) (earlier : List Word) (s : TypingState) → Walked (λ _ t. NamesKept ns earlier) (rules.names_differ ns
    earlier s)
names_kept [] earlier s = walk_ends tt
names_kept (n ∷ ns) earlier s =
    walk_obeyed Rule.T02 n.0 (not (is_among n.1 earlier || is_among n.1 built_in)) _ λ h. walk_map (names_kept ns (earlier ++
    n.1 ∷ []) s) λ _ t k. (h, k)

pub text_names_kept : (parts : Parts Pos) (end : Pos) (items : ItemTable) → rules.collected parts end ≡ Ok items → NamesKept
    (filter_map rules.item_name (item_syns (items_of parts))) []
text_names_kept parts end items e = by (rules.collecting (items_of parts) end start) walked e
  where
    start : TypingState
    start = rules.starting_with rules.no_items

    walked : Walked (λ _ t. NamesKept (filter_map rules.item_name (item_syns (items_of parts))) []) (rules.collecting (items_of
        parts) end (rules.starting_with rules.no_items))
    walked =
        walk (names_kept (filter_map rules.item_name (item_syns (items_of parts))) [] (rules.starting_with rules.no_items)) λ _ t
        h. whatever _ h

    by : (r : Result (Unit {0} × TypingState) Broken) → Walked (λ _ t. NamesKept (filter_map rules.item_name (item_syns (items_of
        parts))) []) r → rules.items_in r ≡ Ok items → NamesKept (filter_map rules.item_name (item_syns (items_of parts))) []
    by (Ok a) w e = w.so
    by (Err x) w e = absurd (no_ok x e)
