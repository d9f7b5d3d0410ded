-- Each type that stands is found, before whatever closes it.
use Rattle.std.proofs.Common.{◌≡◌, ℕ, zero, suc, ◌<◌, ◌≤◌, Bool, true, false, not, ◌&&◌, ◌||◌, nat_eq, nat_lt, if◌then◌else◌, List, [], ◌∷◌, ◌++◌, map, length, codes, Option, Some, None, decimal, slice_get, refl, ap, sym, subst, ◌∙◌, arith, append_assoc, length-append, eqb-true}
use Rattle.std.specs.List.{list_all, list_any, starts_with}
use Rattle.std.proofs.lemmas.Bool.{and_parts, and_from, false≢true}
use Rattle.std.proofs.lemmas.Grind.{common_steps}
use Rattle.mir_base.specs.declared.int_kind.IntKind.{IntKind}
use Rattle.mir_ty.specs.declared.ty.Ty.{Ty}
use Rattle.mir_ty.specs.declared.adt.Adt.{Adt}
use Rattle.mir_ty.specs.declared.def.TraitDef.{TraitDef}
use Rattle.mir_ty.specs.ItemTable.{ItemTable}
use Rattle.cfg_graph.specs.WellFormed.NameFaults.{same_name, is_among, stands_in_names, is_name, is_adt_name, type_words}
use Rattle.listing_parts.specs.Numbers.{adt_no, trait_no}
use Rattle.listing_write.specs.Fields.{Fits}
use Rattle.listing_write.specs.Lists.{behind_commas, joined}
use Rattle.listing_write.specs.Lines.{Tree, Trees, Number, Truth, Nothing, Never, Named, Tuple, Array, Boxed, Object, Shared, Unique, Closed, Missing, no_more, and_more, tree_text, trees_text}
use Rattle.listing_write.specs.Reading.Rows.{many, many_within, row, row_from, closed_row, after, comma}
use Rattle.listing_write.specs.Reading.Words.{FoundInText, bind, chosen, as_, said, strip, is_digit}
use Rattle.listing_write.specs.Types.{tuple_text, kind_text, trait_name, name_of_trait}
use Rattle.mir_ty.specs.Named.{adt_name, name_of_adt}
use Rattle.listing_write.proofs.Reading.Basics.{stops, span_run, one_of, any_decimal}
use Rattle.listing_parts.specs.declared.begin.TypeAround.{TypeAround}
use Rattle.listing_parts.specs.declared.begin.Begin.{Begin}
use Rattle.listing_parts.specs.TypeReading.{word_type, unique_mark, reference_from, object_from, worded_begin, begin_from, begin_read, array_end, around_end, around_text, tuple_from, rest_read, type_within, type_read, types_read}
use Rattle.listing_parts.specs.TypesFound.{Stands, AllStand, EachStands, RowsAreRead, begins_brace, closes}
use Rattle.listing_parts.proofs.Depth.{Deep, AllDeep, deep_enough, parts_deep, some_name, is_a_name}
use Rattle.listing_parts.proofs.PlainNumbers.{plain_reads, whole_reads}
use Rattle.listing_parts.proofs.Sound.{placed_name}

by_test : {P : Type 0} (t : Bool) → (t ≡ true → P) → (t ≡ false → P) → P
by_test true yes_ no_ = yes_ refl
by_test false yes_ no_ = no_ refl

pub closes_stops : (r : List ℕ) → closes r ≡ true → stops stands_in_names r ≡ true
closes_stops [] h = refl
closes_stops (b ∷ bs) h =
    by_test (nat_eq b 32)
    (λ e. subst (λ (c : ℕ). not (stands_in_names c) ≡ true) (sym (eqb-true b 32 e)) refl)
    (λ e. one_of (λ c. not (stands_in_names c) ≡ true) b (10 ∷ codes ",;)]>") (refl, (refl, (refl, (refl, (refl, (refl, tt))))))
    (subst (λ (t : Bool). (if t then begins_brace bs else list_any (nat_eq b) (10 ∷ codes ",;)]>")) ≡ true) e h))

digit_stands : (b : ℕ) → is_digit b ≡ true → stands_in_names b ≡ true
digit_stands b h = grind (arith, common_steps)

pub digits_stand : (ds : List ℕ) → list_all is_digit ds ≡ true → list_all stands_in_names ds ≡ true
digits_stand [] h = refl
digits_stand (d ∷ ds) h = let (this, others) = and_parts (is_digit d) _ h in and_from (stands_in_names d) _ (digit_stands d this) (digits_stand ds others)

pub not_true : (b : Bool) → not b ≡ true → b ≡ false
not_true true h = absurd (false≢true h)
not_true false h = refl

pub or_parts : (a b : Bool) → (a || b) ≡ false → (a ≡ false) × (b ≡ false)
or_parts true b h = absurd (false≢true (sym h))
or_parts false b h = (refl, h)

-- what begins with no byte of a name does not begin with a word
strip_stopped : (c : ℕ) (cs r : List ℕ) → stands_in_names c ≡ true → stops stands_in_names r ≡ true → strip (c ∷ cs) r ≡ None
strip_stopped c cs [] h s = refl
strip_stopped c cs (b ∷ bs) h s =
    by_test (nat_eq c b)
    (λ e. absurd (false≢true (sym (ap not (sym (ap stands_in_names (eqb-true c b e)) ∙ h)) ∙ s)))
    (λ e. rw e refl)

abbrev unless_brace : List ℕ → Option (List ℕ)
unless_brace r = chosen (strip (codes "}") r) (λ s. None) (Some r)

before_brace : (bs : List ℕ) → begins_brace bs ≡ true → unless_brace bs ≡ None
before_brace [] h = absurd (false≢true h)
before_brace (b ∷ bs) h = ap (λ (c : ℕ). unless_brace (c ∷ bs)) (eqb-true b 125 h)

-- a name, with what closes it, is no word, a blank and more
no_word : (w name r : List ℕ) → list_all stands_in_names w ≡ true → list_all stands_in_names name ≡ true → closes r ≡ true
    → bind (strip (w ++ codes " ") (name ++ r)) unless_brace ≡ None
no_word [] [] [] w n e = refl
no_word [] [] (b ∷ bs) w n e =
    by_test (nat_eq 32 b)
    (λ h. let same = eqb-true 32 b h in
    let brace_at : begins_brace bs ≡ true = subst (λ (c : ℕ). (if nat_eq c 32 then begins_brace bs else list_any (nat_eq c) (10 ∷ codes ",;)]>")) ≡ true) (sym same) e in
    rw h (before_brace bs brace_at))
    (λ h. rw h refl)
no_word [] (a ∷ name) r w n e =
    by_test (nat_eq 32 a)
    (λ h. absurd (false≢true (subst (λ (c : ℕ). stands_in_names c ≡ true) (sym (eqb-true 32 a h)) (and_parts (stands_in_names a) _ n).0)))
    (λ h. rw h refl)
no_word (c ∷ w) [] r all n e = ap (λ (o : Option (List ℕ)). bind o unless_brace) (strip_stopped c (w ++ codes " ") r (and_parts (stands_in_names c) _ all).0 (closes_stops r e))
no_word (c ∷ w) (a ∷ name) r all n e =
    let deeper = no_word w name r (and_parts (stands_in_names c) _ all).1 (and_parts (stands_in_names a) _ n).1 e in
    by_test (nat_eq c a) (λ h. rw h deeper) (λ h. rw h refl)

-- names
pub name_all : (name : List ℕ) → is_name name ≡ true → list_all stands_in_names name ≡ true
name_all name h = (and_parts (nat_lt 0 (length name)) _ h).1

pub no_closure : (w name : List ℕ) → starts_with nat_eq name w ≡ false → strip w name ≡ None
no_closure [] name h = absurd (false≢true (sym h))
no_closure (c ∷ w) [] h = refl
no_closure (c ∷ w) (a ∷ name) h =
    by_test (nat_eq c a)
    (λ e. rw e (no_closure w name (subst (λ (t : Bool). (t && starts_with nat_eq name w) ≡ false) e h)))
    (λ e. rw e refl)

words_differ : (name : List ℕ) → is_among type_words name ≡ false → (word_type name ≡ None) × (same_name name (codes "Box") ≡ false) × (same_name name (codes "dyn") ≡ false)
words_differ name none =
    let (no_i32, at1) = or_parts (same_name name (codes "i32")) _ none in
    let (no_i64, at2) = or_parts (same_name name (codes "i64")) _ at1 in
    let (no_u32, at3) = or_parts (same_name name (codes "u32")) _ at2 in
    let (no_u64, at4) = or_parts (same_name name (codes "u64")) _ at3 in
    let (no_usize, at5) = or_parts (same_name name (codes "usize")) _ at4 in
    let (no_bool, at6) = or_parts (same_name name (codes "bool")) _ at5 in
    let (no_box, at7) = or_parts (same_name name (codes "Box")) _ at6 in
    (rw (no_i32, no_i64, no_u32, no_u64, no_usize, no_bool) refl, no_box, (or_parts (same_name name (codes "dyn")) _ at7).0)

pub found_at : {X : Type 0} (xs : List X) (n : ℕ) → n < length xs → (x : X) × (slice_get xs n ≡ Some x)
found_at [] n h = absurd (omega arith)
found_at (x ∷ xs) zero h = (x, refl)
found_at (x ∷ xs) (suc n) h = found_at xs n (omega arith)

module _ (heads : ItemTable) (inner : List ℕ → FoundInText (List ℕ)) where
  abbrev found : List ℕ → FoundInText (List ℕ)
  found t = bind (begin_read heads t) (rest_read inner heads)

  -- a type that begins with a word
  at_word : (w r : List ℕ) → 0 < length w → list_all stands_in_names w ≡ true → stops stands_in_names r ≡ true → (f : FoundInText (List ℕ)) → bind (worded_begin heads w r) (rest_read inner heads) ≡ f
      → found (w ++ r) ≡ f
  at_word [] r some all s f h = absurd (omega arith)
  at_word (c ∷ cs) r some all s f h = ap (λ (q : List ℕ × List ℕ). bind (begin_from heads q ((c ∷ cs) ++ r)) (rest_read inner heads)) (span_run stands_in_names (c ∷ cs) r all s) ∙ h

  kind_reads : (kind : IntKind) (r : List ℕ) → closes r ≡ true → found (kind_text kind ++ r) ≡ Some (kind_text kind, r)
  kind_reads IntKind.I32 r c = at_word (codes "i32") r (omega arith) refl (closes_stops r c) (Some (codes "i32", r)) refl
  kind_reads IntKind.I64 r c = at_word (codes "i64") r (omega arith) refl (closes_stops r c) (Some (codes "i64", r)) refl
  kind_reads IntKind.U32 r c = at_word (codes "u32") r (omega arith) refl (closes_stops r c) (Some (codes "u32", r)) refl
  kind_reads IntKind.U64 r c = at_word (codes "u64") r (omega arith) refl (closes_stops r c) (Some (codes "u64", r)) refl
  kind_reads IntKind.Usize r c = at_word (codes "usize") r (omega arith) refl (closes_stops r c) (Some (codes "usize", r)) refl

  closure_reads : (n : ℕ) (r : List ℕ) → Fits n → closes r ≡ true → found ((codes "closure#" ++ decimal n) ++ r) ≡ Some (codes "closure#" ++ decimal n, r)
  closure_reads n r fits c =
      let w : List ℕ = codes "closure#" ++ decimal n in
      at_word w r (omega arith) (digits_stand (decimal n) (any_decimal n)) (closes_stops r c) (Some (w, r))
      (ap (λ (o : Option ℕ). bind (bind (bind o (λ n. Some (Ty.Closure n))) (λ ty. Some (Begin.Whole ty, r))) (rest_read inner heads)) (whole_reads n fits))

  adt_reads : (name r : List ℕ) → is_adt_name name ≡ true → adt_no heads name < length heads.adts → closes r ≡ true → found (name ++ r) ≡ Some (name, r)
  adt_reads name r named there c =
      let own = is_a_name name named in
      let (front, no_start) = and_parts (is_name name && not (is_among type_words name)) _ named in
      let (no_word_type, no_box, no_dyn) = words_differ name (not_true (is_among type_words name) (and_parts (is_name name) _ front).1) in
      let no_mark = no_closure (codes "closure#") name (not_true (starts_with nat_eq name (codes "closure#")) no_start) in
      let (adt, is) = found_at heads.adts (adt_no heads name) there in
      let begun : worded_begin heads name r ≡ Some (Begin.Whole (Ty.Adt (adt_no heads name)), r) = rw (no_box, no_dyn, no_word_type, no_mark, is) refl in
      let written : adt_name heads (adt_no heads name) ≡ name = ap name_of_adt is ∙ sym (placed_name (λ (adt : Adt). adt.name) heads.adts name adt is) in
      at_word name r (some_name name own) (name_all name own) (closes_stops r c) (Some (name, r))
      (ap (λ (f : FoundInText Begin). bind f (rest_read inner heads)) begun ∙ ap (λ (w : List ℕ). Some (w, r)) written)

  object_reads : (name r : List ℕ) → is_name name ≡ true → trait_no heads name < length heads.traits → closes r ≡ true → found ((codes "dyn " ++ name) ++ r) ≡ Some (codes "dyn " ++ name, r)
  object_reads name r named there c =
      let (def, is) = found_at heads.traits (trait_no heads name) there in
      let written : trait_name heads (trait_no heads name) ≡ name = ap name_of_trait is ∙ sym (placed_name (λ (def : TraitDef). def.name) heads.traits name def is) in
      ap (λ (q : List ℕ × List ℕ). bind (object_from heads q) (rest_read inner heads)) (span_run stands_in_names name r (name_all name named) (closes_stops r c))
      ∙ ap (λ (o : Option TraitDef). bind (bind o (λ def. Some (Begin.Whole (Ty.Dyn (trait_no heads name)), r))) (rest_read inner heads)) is
      ∙ ap (λ (w : List ℕ). Some (codes "dyn " ++ w, r)) written

-- marks
no_brace : (b : ℕ) (bs : List ℕ) → nat_eq 125 b ≡ false → strip (codes "}") (b ∷ bs) ≡ None
no_brace b bs h = rw h refl

name_no_brace : (name r : List ℕ) → is_name name ≡ true → strip (codes "}") (name ++ r) ≡ None
name_no_brace [] r named = absurd (let some = some_name [] named in omega arith)
name_no_brace (b ∷ bs) r named =
    by_test (nat_eq 125 b)
    (λ e. absurd (false≢true (subst (λ (c : ℕ). stands_in_names c ≡ true) (sym (eqb-true 125 b e)) (and_parts (stands_in_names b) _ (name_all (b ∷ bs) named)).0)))
    (λ e. rw e refl)

-- no type begins with a brace
type_no_brace : (heads : ItemTable) (t : Tree) → Stands heads t → (r : List ℕ) → strip (codes "}") (tree_text t ++ r) ≡ None
type_no_brace heads (Number IntKind.I32) s r = refl
type_no_brace heads (Number IntKind.I64) s r = refl
type_no_brace heads (Number IntKind.U32) s r = refl
type_no_brace heads (Number IntKind.U64) s r = refl
type_no_brace heads (Number IntKind.Usize) s r = refl
type_no_brace heads Truth s r = refl
type_no_brace heads Nothing s r = refl
type_no_brace heads Never s r = refl
type_no_brace heads (Named name) s r = name_no_brace name r (is_a_name name s.0)
type_no_brace heads (Tuple no_more) s r = refl
type_no_brace heads (Tuple (and_more first no_more)) s r = refl
type_no_brace heads (Tuple (and_more first (and_more next others))) s r = refl
type_no_brace heads (Array element count) s r = refl
type_no_brace heads (Boxed inside) s r = refl
type_no_brace heads (Object name) s r = refl
type_no_brace heads (Shared to) s r = refl
type_no_brace heads (Unique to) s r = refl
type_no_brace heads (Closed n) s r = refl
type_no_brace heads Missing s r = absurd s

-- a type behind `&` is not behind `&mut `
type_no_mut : (heads : ItemTable) (t : Tree) → Stands heads t → (r : List ℕ) → closes r ≡ true → unique_mark (tree_text t ++ r) ≡ None
type_no_mut heads (Number IntKind.I32) s r c = refl
type_no_mut heads (Number IntKind.I64) s r c = refl
type_no_mut heads (Number IntKind.U32) s r c = refl
type_no_mut heads (Number IntKind.U64) s r c = refl
type_no_mut heads (Number IntKind.Usize) s r c = refl
type_no_mut heads Truth s r c = refl
type_no_mut heads Nothing s r c = refl
type_no_mut heads Never s r c = refl
type_no_mut heads (Named name) s r c = no_word (codes "mut") name r refl (name_all name (is_a_name name s.0)) c
type_no_mut heads (Tuple no_more) s r c = refl
type_no_mut heads (Tuple (and_more first no_more)) s r c = refl
type_no_mut heads (Tuple (and_more first (and_more next others))) s r c = refl
type_no_mut heads (Array element count) s r c = refl
type_no_mut heads (Boxed inside) s r c = refl
type_no_mut heads (Object name) s r c = refl
type_no_mut heads (Shared to) s r c = refl
type_no_mut heads (Unique to) s r c = refl
type_no_mut heads (Closed n) s r c = refl
type_no_mut heads Missing s r c = absurd s

-- what stands behind the parts of a tuple
none_many : {Z : Type 0} (read : List ℕ → FoundInText Z) (k : ℕ) (r : List ℕ) → read r ≡ None → many_within k read r ≡ ([], r)
none_many read zero r h = refl
none_many read (suc k) r h = rw h refl

pub behind_closes : (ts : Trees) (r : List ℕ) → closes r ≡ true → closes (behind_commas (trees_text ts) ++ r) ≡ true
behind_closes no_more r c = c
behind_closes (and_more first others) r c = refl

-- no type before a mark that closes
no_type_at : (heads : ItemTable) (k : ℕ) (r : List ℕ) → type_within heads k (codes ")" ++ r) ≡ None
no_type_at heads zero r = refl
no_type_at heads (suc k) r = refl

module _ (heads : ItemTable) (k : ℕ) where
  abbrev reader : List ℕ → FoundInText (List ℕ)
  reader = type_within heads k

  abbrev Reads : Tree → Type 0
  Reads t = (r : List ℕ) → closes r ≡ true → reader (tree_text t ++ r) ≡ Some (tree_text t, r)

  boxed_reads : (t : Tree) → Reads t → (r : List ℕ) → type_within heads (suc k) ((codes "Box<" ++ tree_text t ++ codes ">") ++ r) ≡ Some (codes "Box<" ++ tree_text t ++ codes ">", r)
  boxed_reads t one r =
      ap (type_within heads (suc k)) (append_assoc (codes "Box<" ++ tree_text t) (codes ">") r)
      ∙ ap (λ (f : FoundInText (List ℕ)). bind f (λ f. as_ (around_text TypeAround.Box f.0) (around_end TypeAround.Box f.1))) (one (codes ">" ++ r) refl)

  array_reads : (t : Tree) (count : ℕ) → Reads t → Fits count → (r : List ℕ)
      → type_within heads (suc k) ((codes "[" ++ tree_text t ++ codes "; " ++ decimal count ++ codes "]") ++ r) ≡ Some (codes "[" ++ tree_text t ++ codes "; " ++ decimal count ++ codes "]", r)
  array_reads t count one fits r =
      let w : List ℕ = tree_text t in
      let behind : List ℕ = decimal count ++ (codes "]" ++ r) in
      let split : (codes "[" ++ w ++ codes "; " ++ decimal count ++ codes "]") ++ r ≡ codes "[" ++ (w ++ (codes "; " ++ behind)) =
      append_assoc (codes "[" ++ w ++ codes "; " ++ decimal count) (codes "]") r ∙ append_assoc (codes "[" ++ w ++ codes "; ") (decimal count) (codes "]" ++ r)
      ∙ append_assoc (codes "[" ++ w) (codes "; ") behind in
      ap (type_within heads (suc k)) split
      ∙ ap (λ (f : FoundInText (List ℕ)). bind f (λ f. as_ (around_text TypeAround.Array f.0) (array_end f.1))) (one (codes "; " ++ behind) refl)
      ∙ ap (λ (f : FoundInText ℕ). as_ (around_text TypeAround.Array w) (bind f (λ n. said (codes "]") n.0 n.1))) (plain_reads count (codes "]" ++ r) fits refl)

  shared_reads : (t : Tree) → Reads t → Stands heads t → (r : List ℕ) → closes r ≡ true → type_within heads (suc k) ((codes "&" ++ tree_text t) ++ r) ≡ Some (codes "&" ++ tree_text t, r)
  shared_reads t one s r c =
      ap (λ (o : Option (List ℕ)). rest_read reader heads (reference_from (tree_text t ++ r) o)) (type_no_mut heads t s r c)
      ∙ ap (λ (f : FoundInText (List ℕ)). bind f (λ f. as_ (around_text TypeAround.Shared f.0) (around_end TypeAround.Shared f.1))) (one r c)

  unique_reads : (t : Tree) → Reads t → Stands heads t → (r : List ℕ) → closes r ≡ true → type_within heads (suc k) ((codes "&mut " ++ tree_text t) ++ r) ≡ Some (codes "&mut " ++ tree_text t, r)
  unique_reads t one s r c =
      let w : List ℕ = tree_text t ++ r in
      ap (λ (o : Option (List ℕ)). rest_read reader heads (reference_from (codes "mut " ++ w) (chosen o (λ s. None) (Some w)))) (type_no_brace heads t s r)
      ∙ ap (λ (f : FoundInText (List ℕ)). bind f (λ f. as_ (around_text TypeAround.Unique f.0) (around_end TypeAround.Unique f.1))) (one r c)

  one_part : (t : Tree) → Reads t → (r : List ℕ) → type_within heads (suc k) ((codes "(" ++ tree_text t ++ codes ",)") ++ r) ≡ Some (codes "(" ++ tree_text t ++ codes ",)", r)
  one_part t one r =
      let w : List ℕ = tree_text t in
      let behind : List ℕ = codes ",)" ++ r in
      ap (type_within heads (suc k)) (append_assoc (codes "(" ++ w) (codes ",)") r)
      ∙ ap (λ (f : FoundInText (List ℕ)). tuple_from reader (row_from reader f (w ++ behind))) (one behind refl)

  more_parts : (t u : Tree) (others : Trees) → Reads t
      → ((r : List ℕ) → closes r ≡ true → strip (codes ", ") r ≡ None → many (comma reader) (behind_commas (trees_text (and_more u others)) ++ r) ≡ (trees_text (and_more u others), r)) → (r : List ℕ)
      → type_within heads (suc k) (tuple_text (tree_text t ∷ trees_text (and_more u others)) ++ r) ≡ Some (tuple_text (tree_text t ∷ trees_text (and_more u others)), r)
  more_parts t u others one rest r =
      let w : List ℕ = tree_text t in
      let more : List ℕ = behind_commas (trees_text (and_more u others)) in
      let behind : List ℕ = codes ")" ++ r in
      let split : (codes "(" ++ (w ++ more) ++ codes ")") ++ r ≡ codes "(" ++ (w ++ (more ++ behind)) =
      append_assoc (codes "(" ++ (w ++ more)) (codes ")") r ∙ ap (λ (x : List ℕ). codes "(" ++ x) (append_assoc w more behind) in
      ap (type_within heads (suc k)) split
      ∙ ap (λ (f : FoundInText (List ℕ)). tuple_from reader (row_from reader f (w ++ (more ++ behind)))) (one (more ++ behind) (behind_closes (and_more u others) behind refl))
      ∙ ap (λ (q : List (List ℕ) × List ℕ). tuple_from reader (w ∷ q.0, q.1)) (rest behind refl refl)

never_deep : (t : Tree) → Deep t zero → ⊥
never_deep (Tuple parts) d = d
never_deep (Array element count) d = d
never_deep (Boxed inside) d = d
never_deep (Shared to) d = d
never_deep (Unique to) d = d
never_deep _ d = d

mutual
  pub tree_reads : (heads : ItemTable) (t : Tree) → Stands heads t → (k : ℕ) → Deep t k → (r : List ℕ) → closes r ≡ true → type_within heads k (tree_text t ++ r) ≡ Some (tree_text t, r)
  tree_reads heads (Number kind) s (suc k) deep r c = kind_reads heads (type_within heads k) kind r c
  tree_reads heads Truth s (suc k) deep r c = at_word heads (type_within heads k) (codes "bool") r (omega arith) refl (closes_stops r c) (Some (codes "bool", r)) refl
  tree_reads heads Nothing s (suc k) deep r c = ap (λ (f : FoundInText (List ℕ)). tuple_from (type_within heads k) (row_from (type_within heads k) f (codes ")" ++ r))) (no_type_at heads k r)
  tree_reads heads Never s (suc k) deep r c = refl
  tree_reads heads (Named name) s (suc k) deep r c = adt_reads heads (type_within heads k) name r s.0 s.1 c
  tree_reads heads (Tuple no_more) s (suc k) deep r c = absurd s.0
  tree_reads heads (Tuple (and_more first no_more)) s (suc k) deep r c = one_part heads k first (λ r c. tree_reads heads first s.1.0 k deep.0 r c) r
  tree_reads heads (Tuple (and_more first (and_more next others))) s (suc k) deep r c =
      more_parts heads k first next others (λ r c. tree_reads heads first s.1.0 k deep.0 r c)
      (λ r c n. parts_read heads (and_more next others) s.1.1 k deep.1 (length (behind_commas (trees_text (and_more next others)) ++ r)) r c n (omega arith)) r
  tree_reads heads (Array element count) s (suc k) deep r c = array_reads heads k element count (λ r c. tree_reads heads element s.0 k deep r c) s.1 r
  tree_reads heads (Boxed inside) s (suc k) deep r c = boxed_reads heads k inside (λ r c. tree_reads heads inside s k deep r c) r
  tree_reads heads (Object name) s (suc k) deep r c = object_reads heads (type_within heads k) name r s.0 s.1 c
  tree_reads heads (Shared to) s (suc k) deep r c = shared_reads heads k to (λ r c. tree_reads heads to s k deep r c) s r c
  tree_reads heads (Unique to) s (suc k) deep r c = unique_reads heads k to (λ r c. tree_reads heads to s k deep r c) s r c
  tree_reads heads (Closed n) s (suc k) deep r c = closure_reads heads (type_within heads k) n r s c
  tree_reads heads Missing s (suc k) deep r c = absurd s
  tree_reads heads t s zero deep r c = absurd (never_deep t deep)

  pub parts_read : (heads : ItemTable) (ts : Trees) → AllStand heads ts → (k : ℕ) → AllDeep ts k → (fuel : ℕ) (r : List ℕ) → closes r ≡ true → strip (codes ", ") r ≡ None
      → length (behind_commas (trees_text ts) ++ r) ≤ fuel → many_within fuel (comma (type_within heads k)) (behind_commas (trees_text ts) ++ r) ≡ (trees_text ts, r)
  parts_read heads no_more s k deep fuel r c n le = none_many (comma (type_within heads k)) fuel r (ap (λ (o : Option (List ℕ)). bind o (type_within heads k)) n)
  parts_read heads (and_more first others) s k deep zero r c n le = absurd (omega arith)
  parts_read heads (and_more first others) s k deep (suc fuel) r c n le =
      let w : List ℕ = tree_text first in
      let more : List ℕ = behind_commas (trees_text others) in
      let split : ((codes ", " ++ w) ++ more) ++ r ≡ codes ", " ++ (w ++ (more ++ r)) = append_assoc (codes ", " ++ w) more r in
      ap (many_within (suc fuel) (comma (type_within heads k))) split
      ∙ ap (λ (f : FoundInText (List ℕ)). after f (many_within fuel (comma (type_within heads k))) (codes ", " ++ (w ++ (more ++ r)))) (tree_reads heads first s.0 k deep.0 (more ++ r) (behind_closes others r c))
      ∙ ap (λ (q : List (List ℕ) × List ℕ). (w ∷ q.0, q.1)) (parts_read heads others s.1 k deep.1 fuel r c n (omega (arith, le, ap length split, length-append w (more ++ r))))

-- a type that stands is read
pub type_reads : (heads : ItemTable) (t : Tree) → Stands heads t → (r : List ℕ) → closes r ≡ true → type_read heads (tree_text t ++ r) ≡ Some (tree_text t, r)
type_reads heads t s r c =
    tree_reads heads t s (length (tree_text t ++ r)) (deep_enough heads t s (length (tree_text t ++ r)) (omega (arith, length-append (tree_text t) r))) r c

-- a row of them
abbrev pub as_trees : List Tree → Trees
as_trees [] = no_more
as_trees (t ∷ ts) = and_more t (as_trees ts)

pub texts_of : (ts : List Tree) → trees_text (as_trees ts) ≡ map tree_text ts
texts_of [] = refl
texts_of (t ∷ ts) = ap (λ (ws : List (List ℕ)). tree_text t ∷ ws) (texts_of ts)

pub all_stand : (heads : ItemTable) (ts : List Tree) → EachStands heads ts → AllStand heads (as_trees ts)
all_stand heads [] s = tt
all_stand heads (t ∷ ts) s = (s.0, all_stand heads ts s.1)

closed_reads : (heads : ItemTable) (ts : Trees) → AllStand heads ts → (k : ℕ) → length (joined (trees_text ts)) ≤ k → (r : List ℕ)
    → closed_row (row (type_within heads k) (joined (trees_text ts) ++ (codes ")" ++ r))) ≡ Some (trees_text ts, r)
closed_reads heads no_more s k le r = ap (λ (f : FoundInText (List ℕ)). closed_row (row_from (type_within heads k) f (codes ")" ++ r))) (no_type_at heads k r)
closed_reads heads (and_more first others) s k le r =
    let w : List ℕ = tree_text first in
    let more : List ℕ = behind_commas (trees_text others) in
    let behind : List ℕ = codes ")" ++ r in
    ap (λ (t : List ℕ). closed_row (row (type_within heads k) t)) (append_assoc w more behind)
    ∙ ap (λ (f : FoundInText (List ℕ)). closed_row (row_from (type_within heads k) f (w ++ (more ++ behind))))
    (tree_reads heads first s.0 k (deep_enough heads first s.0 k (omega (arith, length-append w more))) (more ++ behind) (behind_closes others behind refl))
    ∙ ap (λ (q : List (List ℕ) × List ℕ). closed_row (w ∷ q.0, q.1))
    (parts_read heads others s.1 k (parts_deep heads others s.1 k (omega (arith, length-append w more))) (length (more ++ behind)) behind refl refl (omega arith))

pub rows_read : RowsAreRead
rows_read heads types s r =
    let ts : Trees = as_trees types in
    let words : List ℕ = joined (map tree_text types) in
    let same : joined (trees_text ts) ≡ words = ap joined (texts_of types) in
    let inside : List ℕ = words ++ (codes ")" ++ r) in
    ap (types_read heads) (append_assoc (codes "(" ++ words) (codes ")") r)
    ∙ ap (λ (x : List ℕ). closed_row (row (type_within heads (length inside)) (x ++ (codes ")" ++ r)))) (sym same)
    ∙ closed_reads heads ts (all_stand heads types s) (length inside) (omega (arith, ap length same, length-append words (codes ")" ++ r))) r
    ∙ ap (λ (ws : List (List ℕ)). Some (ws, r)) (texts_of types)
