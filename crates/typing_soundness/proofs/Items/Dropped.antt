-- The `drop` bodies of an accepted text have the heads of such bodies.
use Rattle.std.proofs.Common.{◌≡◌, ℕ, zero, suc, Bool, true, false, ◌&&◌, ◌==◌, not, if◌then◌else◌, List, [], ◌∷◌, ◌++◌, map, length, slice_get, Option, Some, None, Result, Ok, Err, IsTrue, refl, ap, sym, subst, ◌∙◌}
use Rattle.std.specs.Prelude.{codes, is_some, option_and_then}
use Rattle.std.specs.List.{filter_map}
use Rattle.std.specs.Option.{option_map_or}
use Rattle.std.specs.Str.{bytes_eq}
use Rattle.std.proofs.lemmas.Bool.{false≢true, and_from, and_parts, eq-eqb}
use Rattle.std.proofs.lemmas.List.{append_assoc, append-nil}
use Rattle.std.proofs.lemmas.Option.{same_Some, none-some}
use Rattle.mir_base.specs.declared.place_in_text.Pos.{Pos}
use Rattle.mir_base.specs.declared.rule.Rule.{Rule}
use Rattle.mir_ty.specs.declared.adt.Adt.{Adt}
use Rattle.mir_ty.specs.declared.def.Sig.{Sig}
use Rattle.mir_ty.specs.declared.ty.TyId.{TyId}
use Rattle.mir_ty.specs.ItemTable.{ItemTable}
use Rattle.src_tree.specs.Layout.{Parts}
use Rattle.typed_tree.specs.Tree.{ProgramTree}
use Rattle.well_typed.specs.Claim.{Claim, Holds, fact, ◌&◌, some}
use Rattle.well_typed.specs.Names.{are_distinct, is_word}
use Rattle.well_typed.specs.Types.{adt_in, adt_of, is_unit, reference_in, reference_of}
use Rattle.typing_rules.specs.Check.{TypingState, Broken}
use Rattle.typing_rules.specs.Collected as rules
use Rattle.typing_rules.specs.Items.{ItemSyn, items_of, item_syns, adt_names, body_paths, drop_body, method_path, impl_owner}
use Rattle.typing_rules.specs.Program as checks
use Rattle.typing_rules.specs.Promises.{Extends}
use Rattle.typing_rules.specs.Written as types
use Rattle.src_ast.specs.Syntax.{Word, ByValue, ByShared, ByUnique, Syn, syn, AnItem, AParam, StructItem, EnumItem, SelfParam, Syns, no_syn, a_syn}
use Rattle.typing_soundness.specs.Closures.{Tape}
use Rattle.typing_soundness.specs.Heads.{AreAdtsOf}
use Rattle.typing_soundness.specs.Items.{is_to, is_unique, is_one_self, is_drop_head, has_drop_head, DropsHaveHeads}
use Rattle.typing_soundness.specs.Met.{MeanParams}
use Rattle.typing_soundness.specs.Program.{IsAccepted}
use Rattle.typing_soundness.specs.Walks.{Walked}
use Rattle.typing_soundness.proofs.Bodies.Program.{bodies_typed}
use Rattle.typing_soundness.proofs.Items.Accepting.{are_collected}
use Rattle.typing_soundness.proofs.Items.Collected.{all_names, both_tell, Collects, bodies_collected, item_head_collected, owner_known, derives_still, variant_collected, variants_collected, names_still, impls_same, finite_still, derive_still, obeyed_still, word_at}
use Rattle.typing_soundness.proofs.Items.Differing.{words_of_text, bodies_differ, adts_differ}
use Rattle.typing_soundness.proofs.Items.Headed.{heads_of_text, words_collected, no_ok as no_items_ok, ok_same}
use Rattle.typing_soundness.proofs.Items.Main.{word_self}
use Rattle.typing_soundness.proofs.Items.Numbered.{IsWorded, IsMethod, method_is, adts_worded, distinct_once, mapped_at}
use Rattle.typing_soundness.proofs.Items.Ready.{All, all_at}
use Rattle.typing_soundness.proofs.Walking.Params.{onward}
use Rattle.typing_soundness.proofs.Walking.Steps.{walk, walk_map, walk_ends}

-- ---- a struct or an enum has the number of its `drop` body

module _ (k : rules.Known) where
  abbrev IsDropOf : Adt → Type 0
  IsDropOf adt = adt.drop_body ≡ drop_body k.paths adt.name

  abbrev KeepsDrops : {A : Type 0} → TypingState → A → TypingState → Type 0
  KeepsDrops s a t = All IsDropOf s.items.adts → All IsDropOf t.items.adts

  same_drops : (old new : List Adt) → new ≡ old → All IsDropOf old → All IsDropOf new
  same_drops old new e h = subst (All IsDropOf) (sym e) h

  one_more : (adts : List Adt) (adt : Adt) → All IsDropOf adts → IsDropOf adt → All IsDropOf (adts ++ adt ∷ [])
  one_more [] adt h is = (is, tt)
  one_more (a ∷ adts) adt h is = (h.0, one_more adts adt h.1 is)

  no_new : {f : Tape} {a b : ℕ} {s t : TypingState} → Collects f [] a b s t → t.items.adts ≡ s.items.adts
  no_new {s = s} c = c.adts ∙ (ap (λ as_. s.items.adts ++ as_) (none c.new_adts c.are_adts) ∙ append-nil s.items.adts)
    where
      none : (as_ : List Adt) → AreAdtsOf [] as_ → as_ ≡ []
      none [] h = refl
      none (a ∷ as_) h = absurd h

  item_drops : (i : Syn) (s : TypingState) → Walked (KeepsDrops s) (rules.item_head k i s)
  item_drops (syn at (AnItem (StructItem ds name kind fields))) s =
      walk (derives_still ds s) λ _ t e. walk (variant_collected (rules.names_alone k (types.number_of k.adts name.1)) name.1
      fields t) λ v u g. walk_ends (λ h. one_more u.items.adts (rules.adt_of k ds name.1 false (v ∷ [])) (same_drops
      s.items.adts u.items.adts (onward e g.0).stays.adts h) refl)
  item_drops (syn at (AnItem (EnumItem ds name variants))) s =
      walk (derives_still ds s) λ _ t e. walk (variants_collected (rules.names_alone k (types.number_of k.adts name.1))
      variants t) λ vs u g. walk_ends (λ h. one_more u.items.adts (rules.adt_of k ds name.1 true vs) (same_drops
      s.items.adts u.items.adts (onward e g.0).stays.adts h) refl)
  item_drops (syn at form) s = walk_map (item_head_collected k 0 (syn at form) s) λ _ t c. same_drops s.items.adts
      t.items.adts (no_new c)

  heads_drops : (c : rules.Count) (is : List ItemSyn) (s : TypingState) → Walked (KeepsDrops s) (rules.heads_collected k c is s)
  heads_drops c [] s = walk_ends (λ h. h)
  heads_drops c (i ∷ is) s =
      walk (both_tell (rules.item_head k i.item s) (owner_known k i.item s) (item_drops i.item s)) λ _ t e. walk
      (bodies_collected k (impl_owner i.item) e.0 c i.bodies t) λ d u g. walk_map (heads_drops d is u) λ _ v f h. f (same_drops
      t.items.adts u.items.adts (no_new g) (e.1 h))

collecting_drops : (is : List ItemSyn) (end : Pos) → Walked (λ _ t. All (IsDropOf (rules.known_of is)) t.items.adts)
    (rules.collecting is end (rules.starting_with rules.no_items))
collecting_drops is end =
    walk (names_still (filter_map rules.item_name (item_syns is)) [] start) λ _ t e. walk (heads_drops k (record {
      outer = [];
      in_outer = 0;
      closures = 0;
    }) is t) λ _ u h. walk (impls_same k (item_syns is) u) λ _ v f. walk (finite_still 0 (filter_map
    rules.adt_item (item_syns is)) v) λ _ w g. walk (derive_still (rules.drop_owners is) 0 (filter_map rules.adt_item
    (item_syns is)) w) λ _ x d.
    walk_map (obeyed_still Rule.T01 end (is_some (types.number_of (body_paths is) (codes "main"))) x) λ _ y o. same_drops k
    u.items.adts y.items.adts ((onward g (onward d o)).stays.adts ∙ f.adts) (h (same_drops k [] t.items.adts e.stays.adts tt))
  where
    start : TypingState
    start = rules.starting_with rules.no_items

    k : rules.Known
    k = rules.known_of is

-- ---- structs and enums by their names

module _ (parts : Parts Pos) (items : ItemTable) (p : ProgramTree) (h : IsAccepted parts items p) where
  abbrev known : rules.Known
  known = rules.known_of (items_of parts)

  pub extended : Extends items p.items
  extended = (bodies_typed parts items p (are_collected parts items p h) h.checked).0

  pub named_adts : map (λ (adt : Adt). adt.name) p.items.adts ≡ adt_names (item_syns (items_of parts))
  named_adts =
      ap (map (λ (adt : Adt). adt.name)) extended.adts ∙ words_collected (items_of parts) items.adts (heads_of_text parts h.end
      items h.collected).adts

  -- the number of a struct or an enum by its name
  pub adt_number : IsTrue (are_distinct (map (λ (adt : Adt). adt.name) p.items.adts)) → (n m : ℕ) (adt : Adt) → slice_get
      p.items.adts n ≡ Some adt → types.number_of known.adts adt.name ≡ Some m → m ≡ n
  adt_number distinct n m adt at by_name =
      distinct_once (map (λ (a : Adt). a.name) p.items.adts) distinct m n adt.name (ap (λ ws. slice_get ws m) named_adts ∙
      word_at known.adts adt.name m by_name) (mapped_at (λ (a : Adt). a.name) p.items.adts n adt at)

  pub adt_worded : All IsWorded (item_syns (items_of parts)) → (n : ℕ) (adt : Adt) → slice_get p.items.adts n ≡ Some adt → IsTrue
      (is_word adt.name)
  adt_worded words n adt at =
      all_at (λ w. IsTrue (is_word w)) known.adts n adt.name (adts_worded (item_syns (items_of parts)) words) (ap (λ ws.
      slice_get ws n) (sym named_adts) ∙ mapped_at (λ (a : Adt). a.name) p.items.adts n adt at)

  drops : All (IsDropOf known) p.items.adts
  drops = subst (All (IsDropOf known)) (sym extended.adts) (by _ (collecting_drops (items_of parts) h.end) h.collected)
    where
      by : (r : Result (Unit {0} × TypingState) Broken) → Walked (λ _ t. All (IsDropOf known) t.items.adts) r → rules.items_in r ≡ Ok
          items → All (IsDropOf known) items.adts
      by (Ok a) w e = subst (λ (is : ItemTable). All (IsDropOf known) is.adts) (ok_same a.1.items items e) w.so
      by (Err x) w e = absurd (no_items_ok x e)

  -- ---- the head of a `drop` body

  module _ (words : All IsWorded (item_syns (items_of parts))) (bodies : IsTrue (are_distinct (map (λ (sig : Sig). sig.name)
      p.items.bodies))) (adts : IsTrue (are_distinct (map (λ (adt : Adt). adt.name) p.items.adts))) where
    -- `&mut self` of the struct or enum
    to_self : (n : ℕ) (adt : Adt) → slice_get p.items.adts n ≡ Some adt → (ty : TyId) (params : Syns) → IsTrue (checks.takes_unique
        params) → MeanParams (all_names known (Some adt.name)) p.items params (ty ∷ []) → IsTrue (is_to
        p.items n ty)
    to_self n adt at ty no_syn takes means = absurd means
    to_self n adt at ty (a_syn (syn here (AParam (SelfParam ByUnique))) rest) takes means =
        let self = means.0 in
        ap (λ o. option_map_or (λ (r : Bool × TyId). option_map_or (λ m. m == n) (adt_of p.items r.1) false) o false) (ap
        (option_and_then reference_in) self.4) ∙ (ap (λ o. option_map_or (λ m. m == n) o false) (ap (option_and_then adt_in)
        self.3) ∙ eq-eqb self.0 n (adt_number adts n self.0 adt at self.2))
    to_self n adt at ty (a_syn (syn here (AParam (SelfParam ByShared))) rest) takes means = absurd (false≢true takes)
    to_self n adt at ty (a_syn (syn here (AParam (SelfParam ByValue))) rest) takes means = absurd (false≢true takes)
    to_self n adt at ty (a_syn (syn here _) rest) takes means = absurd (false≢true takes)

    one_self : (n : ℕ) (adt : Adt) → slice_get p.items.adts n ≡ Some adt → (params : Syns) → IsTrue (checks.takes_unique params) →
        (tys : List TyId) (result : TyId) → MeanParams (all_names known (Some adt.name)) p.items params tys → IsTrue
        (checks.is_one_unique p.items tys && is_unit p.items result) → IsTrue (is_one_self p.items n tys && is_unit p.items
        result)
    one_self n adt at params takes [] result means is = absurd (false≢true is)
    one_self n adt at params takes (ty ∷ []) result means is =
        let a = and_parts (is_unique p.items ty) _ is in
        and_from (is_unique p.items ty && is_to p.items n ty) _ (and_from (is_unique p.items ty) _ a.0 (to_self n adt at ty params
        takes means)) a.1
    one_self n adt at params takes (ty ∷ other ∷ tys) result means is = absurd (false≢true is)

    drop_head : (n : ℕ) (adt : Adt) → slice_get p.items.adts n ≡ Some adt → (o : Option ℕ) → adt.drop_body ≡ o → Holds
        (has_drop_head p.items adt.name n o)
    drop_head n adt at None e = refl
    drop_head n adt at (Some body) e =
        subst (λ o. Holds (some o (is_drop_head p.items adt.name n))) (sym m.there) (
          ap (λ w. bytes_eq w (adt.name ++ codes "::drop")) (m.is_named ∙ append_assoc adt.name (codes "::") (codes "drop")) ∙
              word_self (adt.name ++ codes "::drop"),
          one_self n adt at m.params asked.0 m.head.params m.head.result m.means (ap (checks.is_drop_sig p.items) (sym m.found) ∙
              asked.1),
        )
      where
        path : Word
        path = method_path adt.name (codes "Drop") (codes "drop")

        m : IsMethod p.items known adt.name (codes "Drop") (codes "drop") body
        m = method_is parts items p h words bodies adt.name (codes "Drop") (codes "drop") (adt_worded words n adt at) refl body
            (word_at known.paths path body (sym (all_at (IsDropOf known) p.items.adts n adt drops at) ∙ e))

        asked : IsTrue (checks.takes_unique m.params) × IsTrue (checks.is_drop_sig p.items (checks.body_head p.items adt.name
            (codes "drop")))
        asked =
            and_parts (checks.takes_unique m.params) _ (subst (λ w. IsTrue (if checks.is_drop w then checks.is_called_drop (codes
            "drop") && (checks.takes_unique m.params && checks.is_drop_sig p.items (checks.body_head p.items adt.name (codes
            "drop"))) else not (checks.is_called_drop (codes "drop")) && (checks.takes_reference m.params && checks.is_same_head
            p.items (checks.trait_method p.items w (codes "drop")) (checks.body_head p.items adt.name (codes "drop")))))
            m.of_trait m.asked)

pub text_drops : DropsHaveHeads
text_drops parts items p h n adt at =
    drop_head parts items p h (words_of_text parts items p h) (bodies_differ parts items p h) (adts_differ parts items p h) n adt
    at adt.drop_body refl
