-- What is found of a type is the text in front.
use Rattle.std.proofs.Common.{◌≡◌, ℕ, zero, suc, Bool, true, false, List, [], ◌∷◌, ◌++◌, map, codes, Option, Some, None, decimal, slice_get, if◌then◌else◌, refl, ap, sym, ◌∙◌, append_assoc, append-nil, inl, inr}
use Rattle.std.specs.Prelude.{◌⊎◌, length}
use Rattle.std.proofs.lemmas.Option.{same_Some, none-some}
use Rattle.mir_base.specs.declared.int_kind.IntKind.{IntKind}
use Rattle.mir_ty.specs.declared.ty.Ty.{Ty}
use Rattle.mir_ty.specs.declared.adt.Adt.{Adt}
use Rattle.mir_ty.specs.declared.def.TraitDef.{TraitDef}
use Rattle.mir_ty.specs.ItemTable.{ItemTable}
use Rattle.mir_ty.specs.Named.{name_of_adt}
use Rattle.cfg_graph.specs.WellFormed.NameFaults.{same_name, stands_in_names}
use Rattle.listing_parts.specs.Numbers.{adt_no, trait_no}
use Rattle.listing_parts.proofs.LineByLine.{strip_sound}
use Rattle.listing_write.specs.Lists.{behind_commas, joined, in_parentheses}
use Rattle.listing_write.specs.Reading.Rows.{many, many_within, row, comma}
use Rattle.listing_write.specs.Reading.Words.{FoundInText, bind, or_else, chosen, as_, said, strip, span, place_in}
use Rattle.listing_write.specs.Types.{form_text, tuple_text, trait_name, name_of_trait}
use Rattle.listing_parts.specs.declared.begin.TypeAround.{TypeAround}
use Rattle.listing_parts.specs.declared.begin.Begin.{Begin}
use Rattle.listing_parts.specs.TypeReading.{plain_number, whole_number, word_type, closure_type, adt_type, named_type, type_of_word, unique_mark, reference_from, reference_begin, marked_begin, object_from, object_begin, worded_begin, begin_from, array_end, around_end, around_text, around_read, row_end, tuple_from, rest_read, type_within, types_behind}
use Rattle.listing_parts.specs.TypesFound.{TypesAreSound, RowsAreSound}
use Rattle.listing_parts.proofs.PlainNumbers.{plain_sound, whole_sound}
use Rattle.listing_parts.proofs.Splits.{split, either, one_of_two, tested, same_found, same_is, span_parts}

-- what a reader finds is the text in front
abbrev pub IsSound : (List ℕ → FoundInText (List ℕ)) → Type 0
IsSound read = (t w r : List ℕ) → read t ≡ Some (w, r) → t ≡ w ++ r

said_sound : {X : Type 0} (word : List ℕ) (x : X) (t : List ℕ) (y : X) (r : List ℕ) → said word x t ≡ Some (y, r) → (x ≡ y) × (t ≡ word ++ r)
said_sound word x t y r h =
    let (u, mark, last) = split (strip word t) (λ r. Some (x, r)) (y, r) h in
    let (own, behind) = same_found x u y r last in
    (own, strip_sound word t u mark ∙ ap (λ (s : List ℕ). word ++ s) behind)

-- words
pub placed_name : {X : Type 0} (name_of : X → List ℕ) (xs : List X) (name : List ℕ) (x : X) → slice_get xs (place_in (map name_of xs) name) ≡ Some x → name ≡ name_of x
placed_name name_of [] name x h = absurd (none-some x h)
placed_name name_of (y ∷ ys) name x h = by (same_name name (name_of y)) refl h (placed_name name_of ys name x)
  where
    by : (v : Bool) → same_name name (name_of y) ≡ v → slice_get (y ∷ ys) (if v then 0 else suc (place_in (map name_of ys) name)) ≡ Some x
        → (slice_get ys (place_in (map name_of ys) name) ≡ Some x → name ≡ name_of x) → name ≡ name_of x
    by true e h deeper = same_is name (name_of y) e ∙ ap name_of (same_Some y x h)
    by false e h deeper = deeper h

-- a row behind commas
module _ (inner : List ℕ → FoundInText (List ℕ)) (sound : IsSound inner) where
  pub many_sound : (k : ℕ) (t : List ℕ) → t ≡ behind_commas (many_within k (comma inner) t).0 ++ (many_within k (comma inner) t).1
  many_sound zero t = refl
  many_sound (suc k) t = by (comma inner t) refl (many_sound k)
    where
      by : (o : FoundInText (List ℕ)) → comma inner t ≡ o → ((u : List ℕ) → u ≡ behind_commas (many_within k (comma inner) u).0 ++ (many_within k (comma inner) u).1)
          → t ≡ behind_commas (many_within (suc k) (comma inner) t).0 ++ (many_within (suc k) (comma inner) t).1
      by None e deeper = rw e refl
      by (Some f) e deeper =
          let (u, mark, found) = split (strip (codes ", ") t) inner f e in
          rw e (strip_sound (codes ", ") t u mark ∙ ap (λ (x : List ℕ). codes ", " ++ x) (sound u f.0 f.1 found ∙ ap (λ (x : List ℕ). f.0 ++ x) (deeper f.1))
          ∙ sym (append_assoc (codes ", " ++ f.0) (behind_commas (many_within k (comma inner) f.1).0) (many_within k (comma inner) f.1).1))

  pub row_sound : (t : List ℕ) → t ≡ joined (row inner t).0 ++ (row inner t).1
  row_sound t = by (inner t) refl
    where
      by : (o : FoundInText (List ℕ)) → inner t ≡ o → t ≡ joined (row inner t).0 ++ (row inner t).1
      by None e = rw e refl
      by (Some f) e =
          rw e (sound t f.0 f.1 e ∙ ap (λ (x : List ℕ). f.0 ++ x) (many_sound (length f.1) f.1)
          ∙ sym (append_assoc f.0 (behind_commas (many (comma inner) f.1).0) (many (comma inner) f.1).1))

  tuple_sound : (q : List (List ℕ) × List ℕ) (t w r : List ℕ) → t ≡ joined q.0 ++ q.1 → tuple_from inner q ≡ Some (w, r) → codes "(" ++ t ≡ w ++ r
  tuple_sound q t w r is h =
      let (u, closed, last) = split (row_end q.0 q.1) (λ r. Some (tuple_text q.0, r)) (w, r) h in
      let (own, behind) = same_found (tuple_text q.0) u w r last in
      ap (λ (x : List ℕ). codes "(" ++ x) is ∙ by q.0 q.1 u closed ∙ (λ i. own i ++ behind i)
    where
      by : (ws : List (List ℕ)) (s u : List ℕ) → row_end ws s ≡ Some u → codes "(" ++ (joined ws ++ s) ≡ tuple_text ws ++ u
      by [] s u closed = ap (λ (x : List ℕ). codes "(" ++ x) (strip_sound (codes ")") s u closed)
      by (v ∷ []) s u closed =
          (λ i. codes "(" ++ (append-nil v i ++ strip_sound (codes ",)") s u closed i)) ∙ sym (append_assoc (codes "(" ++ v) (codes ",)") u)
      by (v ∷ x ∷ ws) s u closed =
          ap (λ (y : List ℕ). codes "(" ++ (joined (v ∷ x ∷ ws) ++ y)) (strip_sound (codes ")") s u closed) ∙ sym (append_assoc (codes "(" ++ joined (v ∷ x ∷ ws)) (codes ")") u)

  around_sound : (around : TypeAround) (word t w r : List ℕ) → ((v : List ℕ) (n : ℕ) (s u : List ℕ) → around_end around s ≡ Some (n, u) → word ++ (v ++ s) ≡ around_text around v n ++ u)
      → around_read inner around t ≡ Some (w, r) → word ++ t ≡ w ++ r
  around_sound around word t w r closes h =
      let (f, found, more) = split (inner t) (λ f. as_ (around_text around f.0) (around_end around f.1)) (w, r) h in
      let (n, ended, last) = split (around_end around f.1) (λ n. Some (around_text around f.0 n.0, n.1)) (w, r) more in
      let (own, behind) = same_found (around_text around f.0 n.0) n.1 w r last in
      ap (λ (x : List ℕ). word ++ x) (sound t f.0 f.1 found) ∙ closes f.0 n.0 f.1 n.1 ended ∙ (λ i. own i ++ behind i)

  box_sound : (t w r : List ℕ) → around_read inner TypeAround.Box t ≡ Some (w, r) → codes "Box<" ++ t ≡ w ++ r
  box_sound t w r h =
      around_sound TypeAround.Box (codes "Box<") t w r
      (λ v n s u e. ap (λ (x : List ℕ). codes "Box<" ++ (v ++ x)) (said_sound (codes ">") 0 s n u e).1 ∙ sym (append_assoc (codes "Box<" ++ v) (codes ">") u)) h

  array_sound : (t w r : List ℕ) → around_read inner TypeAround.Array t ≡ Some (w, r) → codes "[" ++ t ≡ w ++ r
  array_sound t w r h = around_sound TypeAround.Array (codes "[") t w r closes h
    where
      closes : (v : List ℕ) (n : ℕ) (s u : List ℕ) → array_end s ≡ Some (n, u) → codes "[" ++ (v ++ s) ≡ (codes "[" ++ v ++ codes "; " ++ decimal n ++ codes "]") ++ u
      closes v n s u e =
          let (x, mark, more) = split (strip (codes "; ") s) (λ t. bind (plain_number t) (λ n. said (codes "]") n.0 n.1)) (n, u) e in
          let (m, number, last) = split (plain_number x) (λ n. said (codes "]") n.0 n.1) (n, u) more in
          let (own, behind) = said_sound (codes "]") m.0 m.1 n u last in
          ap (λ (y : List ℕ). codes "[" ++ (v ++ y)) (strip_sound (codes "; ") s x mark
          ∙ ap (λ (y : List ℕ). codes "; " ++ y) ((plain_sound x m.0 m.1 number).0 ∙ (λ i. decimal (own i) ++ behind i)))
          ∙ simp append_assoc refl

  shared_sound : (t w r : List ℕ) → around_read inner TypeAround.Shared t ≡ Some (w, r) → codes "&" ++ t ≡ w ++ r
  shared_sound t w r h =
      around_sound TypeAround.Shared (codes "&") t w r
      (λ v n s u e. ap (λ (x : List ℕ). codes "&" ++ (v ++ x)) (same_found 0 s n u e).1 ∙ sym (append_assoc (codes "&") v u)) h

  unique_sound : (t w r : List ℕ) → around_read inner TypeAround.Unique t ≡ Some (w, r) → codes "&mut " ++ t ≡ w ++ r
  unique_sound t w r h =
      around_sound TypeAround.Unique (codes "&mut ") t w r
      (λ v n s u e. ap (λ (x : List ℕ). codes "&mut " ++ (v ++ x)) (same_found 0 s n u e).1 ∙ sym (append_assoc (codes "&mut ") v u)) h

  module _ (heads : ItemTable) where
    abbrev behind : Begin × List ℕ → FoundInText (List ℕ)
    behind = rest_read inner heads

    reference_sound : (t w r : List ℕ) → behind (reference_begin t) ≡ Some (w, r) → codes "&" ++ t ≡ w ++ r
    reference_sound t w r h = by (unique_mark t) refl (h)
      where
        by : (o : Option (List ℕ)) → unique_mark t ≡ o → behind (reference_from t o) ≡ Some (w, r) → codes "&" ++ t ≡ w ++ r
        by None e h = shared_sound t w r h
        by (Some u) e h =
            let (v, mut, not_brace) = split (strip (codes "mut ") t) (λ r. chosen (strip (codes "}") r) (λ s. None) (Some r)) u e in
            unless v mut (either (strip (codes "}") v) (λ s. None) (Some v) u not_brace)
          where
            unless : (v : List ℕ) → strip (codes "mut ") t ≡ Some v
                → ((s : List ℕ) × (strip (codes "}") v ≡ Some s) × (◌≡◌ {A = Option (List ℕ)} None (Some u))) ⊎ ((strip (codes "}") v ≡ None) × (◌≡◌ {A = Option (List ℕ)} (Some v) (Some u)))
                → codes "&" ++ t ≡ w ++ r
            unless v mut (inl brace) = absurd (none-some u brace.2)
            unless v mut (inr other) =
                ap (λ (x : List ℕ). codes "&" ++ x) (strip_sound (codes "mut ") t v mut ∙ ap (λ (x : List ℕ). codes "mut " ++ x) (same_Some v u other.1)) ∙ unique_sound u w r h

    -- what follows a beginning
    abbrev Follows : List ℕ → FoundInText Begin → Type 0
    Follows t o = (w r : List ℕ) → bind o behind ≡ Some (w, r) → t ≡ w ++ r

    said_follows : (word t : List ℕ) (b : Begin) (other : FoundInText Begin) → ((u w r : List ℕ) → behind (b, u) ≡ Some (w, r) → word ++ u ≡ w ++ r) → Follows t other → Follows t (or_else (said word b t) other)
    said_follows word t b other one rest w r h = by (strip word t) refl h
      where
        by : (o : Option (List ℕ)) → strip word t ≡ o → bind (or_else (bind o (λ r. Some (b, r))) other) behind ≡ Some (w, r) → t ≡ w ++ r
        by None e h = rest w r h
        by (Some u) e h = strip_sound word t u e ∙ one u w r h

    marked_follows : (t : List ℕ) → Follows t (marked_begin t)
    marked_follows t =
        said_follows (codes "(") t Begin.Row _ (λ u w r h. tuple_sound (row inner u) u w r (row_sound u) h)
        (said_follows (codes "[") t (Begin.Around TypeAround.Array) _ (λ u w r h. array_sound u w r h)
        (said_follows (codes "!") t (Begin.Whole Ty.Never) _ (λ u w r h. let (own, rest) = same_found (codes "!") u w r h in λ i. own i ++ rest i) last))
      where
        last : Follows t (bind (strip (codes "&") t) (λ r. Some (reference_begin r)))
        last w r h = by (strip (codes "&") t) refl h
          where
            by : (o : Option (List ℕ)) → strip (codes "&") t ≡ o → bind (bind o (λ r. Some (reference_begin r))) behind ≡ Some (w, r) → t ≡ w ++ r
            by None e h = absurd (none-some (w, r) h)
            by (Some u) e h = strip_sound (codes "&") t u e ∙ reference_sound u w r h

    abbrev alone : Ty → List ℕ
    alone ty = form_text heads (λ id. []) ty

    word_is : (w : List ℕ) (ty : Ty) → word_type w ≡ Some ty → w ≡ alone ty
    word_is w ty h =
        one (codes "i32") (Ty.Int IntKind.I32) _ refl (one (codes "i64") (Ty.Int IntKind.I64) _ refl (one (codes "u32") (Ty.Int IntKind.U32) _ refl
        (one (codes "u64") (Ty.Int IntKind.U64) _ refl (one (codes "usize") (Ty.Int IntKind.Usize) _ refl (one (codes "bool") Ty.Bool None refl (λ e. absurd (none-some ty e))))))) h
      where
        one : (word : List ℕ) (a : Ty) (other : Option Ty) → word ≡ alone a → (other ≡ Some ty → w ≡ alone ty) → (if same_name w word then Some a else other) ≡ Some ty → w ≡ alone ty
        one word a other written rest h = by (tested (same_name w word) (Some a) other ty h)
          where
            by : ((same_name w word ≡ true) × (◌≡◌ {A = Option Ty} (Some a) (Some ty))) ⊎ ((same_name w word ≡ false) × (other ≡ Some ty)) → w ≡ alone ty
            by (inl yes_) = same_is w word yes_.0 ∙ written ∙ ap alone (same_Some a ty yes_.1)
            by (inr no_) = rest no_.1

    adt_is : (w : List ℕ) (ty : Ty) → adt_type heads w ≡ Some ty → w ≡ alone ty
    adt_is w ty h =
        let (adt, is, last) = split (slice_get heads.adts (adt_no heads w)) (λ adt. Some (Ty.Adt (adt_no heads w))) ty h in
        placed_name (λ (adt : Adt). adt.name) heads.adts w adt is ∙ ap name_of_adt (sym is) ∙ ap alone (same_Some (Ty.Adt (adt_no heads w)) ty last)

    named_is : (w : List ℕ) (ty : Ty) → named_type heads w ≡ Some ty → w ≡ alone ty
    named_is w ty h = by (either (strip (codes "closure#") w) closure_type (adt_type heads w) ty h)
      where
        by : ((u : List ℕ) × (strip (codes "closure#") w ≡ Some u) × (closure_type u ≡ Some ty)) ⊎ ((strip (codes "closure#") w ≡ None) × (adt_type heads w ≡ Some ty)) → w ≡ alone ty
        by (inl c) =
            let (n, whole, last) = split (whole_number c.0) (λ n. Some (Ty.Closure n)) ty c.2 in
            strip_sound (codes "closure#") w c.0 c.1 ∙ ap (λ (x : List ℕ). codes "closure#" ++ x) (whole_sound c.0 n whole).0 ∙ ap alone (same_Some (Ty.Closure n) ty last)
        by (inr a) = adt_is w ty a.1

    word_sound : (w : List ℕ) (ty : Ty) → type_of_word heads w ≡ Some ty → w ≡ alone ty
    word_sound w ty h = by (one_of_two (word_type w) (named_type heads w) ty h)
      where
        by : (word_type w ≡ Some ty) ⊎ (named_type heads w ≡ Some ty) → w ≡ alone ty
        by (inl a) = word_is w ty a
        by (inr b) = named_is w ty b

    object_follows : (t w r : List ℕ) → bind (object_begin heads t) behind ≡ Some (w, r) → codes "dyn" ++ t ≡ w ++ r
    object_follows t w r h =
        let (b, found, more) = split (object_begin heads t) behind (w, r) h in
        let (u, blank, named) = split (strip (codes " ") t) (λ t. object_from heads (span stands_in_names t)) b found in
        let n : List ℕ × List ℕ = span stands_in_names u in
        let (def, is, last) = split (slice_get heads.traits (trait_no heads n.0)) (λ def. Some (Begin.Whole (Ty.Dyn (trait_no heads n.0)), n.1)) b named in
        let same : behind (Begin.Whole (Ty.Dyn (trait_no heads n.0)), n.1) ≡ Some (w, r) = ap behind (same_Some (Begin.Whole (Ty.Dyn (trait_no heads n.0)), n.1) b last) ∙ more in
        let (own, rest) = same_found (codes "dyn " ++ trait_name heads (trait_no heads n.0)) n.1 w r same in
        ap (λ (x : List ℕ). codes "dyn" ++ x) (strip_sound (codes " ") t u blank ∙ ap (λ (x : List ℕ). codes " " ++ x) (span_parts stands_in_names u))
        ∙ (λ i. codes "dyn " ++ ((placed_name (λ (def : TraitDef). def.name) heads.traits n.0 def is ∙ ap name_of_trait (sym is)) i ++ n.1))
        ∙ (λ i. own i ++ rest i)

    worded_follows : (word rest w r : List ℕ) → bind (worded_begin heads word rest) behind ≡ Some (w, r) → word ++ rest ≡ w ++ r
    worded_follows word rest w r h = by (same_name word (codes "Box")) refl h
      where
        others : FoundInText Begin
        others = if same_name word (codes "dyn") then object_begin heads rest else bind (type_of_word heads word) (λ ty. Some (Begin.Whole ty, rest))

        last : (v : Bool) → same_name word (codes "dyn") ≡ v → bind (if v then object_begin heads rest else bind (type_of_word heads word) (λ ty. Some (Begin.Whole ty, rest))) behind ≡ Some (w, r) → word ++ rest ≡ w ++ r
        last true e h = ap (λ (x : List ℕ). x ++ rest) (same_is word (codes "dyn") e) ∙ object_follows rest w r h
        last false e h = one (type_of_word heads word) refl h
          where
            one : (o : Option Ty) → type_of_word heads word ≡ o → bind (bind o (λ ty. Some (Begin.Whole ty, rest))) behind ≡ Some (w, r) → word ++ rest ≡ w ++ r
            one None e h = absurd (none-some (w, r) h)
            one (Some ty) e h =
                let (own, back) = same_found (alone ty) rest w r h in
                ap (λ (x : List ℕ). x ++ rest) (word_sound word ty e) ∙ (λ i. own i ++ back i)

        boxed : (o : Option (List ℕ)) → strip (codes "<") rest ≡ o → bind (bind o (λ r. Some (Begin.Around TypeAround.Box, r))) behind ≡ Some (w, r) → codes "Box" ++ rest ≡ w ++ r
        boxed None e h = absurd (none-some (w, r) h)
        boxed (Some u) e h = ap (λ (x : List ℕ). codes "Box" ++ x) (strip_sound (codes "<") rest u e) ∙ box_sound u w r h

        by : (v : Bool) → same_name word (codes "Box") ≡ v → bind (if v then said (codes "<") (Begin.Around TypeAround.Box) rest else others) behind ≡ Some (w, r) → word ++ rest ≡ w ++ r
        by true e h = ap (λ (x : List ℕ). x ++ rest) (same_is word (codes "Box") e) ∙ boxed (strip (codes "<") rest) refl h
        by false e h = last (same_name word (codes "dyn")) refl h

    from_sound : (q : List ℕ × List ℕ) (t w r : List ℕ) → t ≡ q.0 ++ q.1 → bind (begin_from heads q t) behind ≡ Some (w, r) → t ≡ w ++ r
    from_sound ([], s) t w r is h = marked_follows t w r h
    from_sound (b ∷ bs, s) t w r is h = is ∙ worded_follows (b ∷ bs) s w r h

pub within_sound : (heads : ItemTable) (depth : ℕ) → IsSound (type_within heads depth)
within_sound heads zero t w r h = absurd (none-some (w, r) h)
within_sound heads (suc depth) t w r h = from_sound (type_within heads depth) (within_sound heads depth) heads (span stands_in_names t) t w r (span_parts stands_in_names t) h

pub type_sound : TypesAreSound
type_sound heads t w r h = within_sound heads (length t) t w r h

pub rows_sound : RowsAreSound
rows_sound heads t words r h =
    let (u, opened, more) = split (strip (codes "(") t) (types_behind heads) (words, r) h in
    let read : List ℕ → FoundInText (List ℕ) = type_within heads (length u) in
    let q : List (List ℕ) × List ℕ = row read u in
    let (v, closed, last) = split (strip (codes ")") q.1) (λ r. Some (q.0, r)) (words, r) more in
    let same : ◌≡◌ {A = List (List ℕ) × List ℕ} (q.0, v) (words, r) = same_Some (q.0, v) (words, r) last in
    let own = ap (λ (p : List (List ℕ) × List ℕ). p.0) same in
    let behind = ap (λ (p : List (List ℕ) × List ℕ). p.1) same in
    strip_sound (codes "(") t u opened
    ∙ ap (λ (x : List ℕ). codes "(" ++ x) (row_sound read (within_sound heads (length u)) u ∙ ap (λ (x : List ℕ). joined q.0 ++ x) (strip_sound (codes ")") q.1 v closed))
    ∙ sym (append_assoc (codes "(" ++ joined q.0) (codes ")") v)
    ∙ (λ i. in_parentheses (own i) ++ behind i)
