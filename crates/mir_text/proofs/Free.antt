-- Words without a line feed in them.
use Rattle.std.proofs.Common.{◌≡◌, ℕ, Bool, true, false, not, nat_eq, List, [], ◌∷◌, ◌++◌, map, codes, Option, Some, None, decimal, refl, ap, sym, ◌∙◌, eqb-true}
use Rattle.std.specs.List.{list_all}
use Rattle.std.proofs.lemmas.Bool.{and_parts, and_from, false≢true}
use Rattle.cfg_graph.specs.WellFormed.NameFaults.{stands_in_names}
use Rattle.mir_base.specs.declared.int_kind.IntKind.{IntKind}
use Rattle.mir_ty.specs.ItemTable.{ItemTable}
use Rattle.listing_write.specs.Items.{copy_text, drop_text}
use Rattle.listing_write.specs.Lines.{Tree, Trees, Number, Truth, Nothing, Never, Named, Tuple, Array, Boxed, Object, Shared, Unique, Closed, Missing, no_more, and_more, tree_text, trees_text, trees_in_row, variant_words, method_words}
use Rattle.listing_write.specs.Lists.{behind_commas, joined, in_parentheses, in_braces}
use Rattle.listing_write.specs.Types.{kind_text, tuple_text}
use Rattle.listing_write.proofs.Reading.Basics.{Every, any_decimal}
use Rattle.listing_lines.specs.ItemsFound.{VariantsStand}
use Rattle.mir_text.specs.HeadReading.{behind_feed}
use Rattle.listing_lines.specs.TraitsFound.{ParamsStand, MethodsStand}
use Rattle.listing_lines.specs.TraitReading.{self_text}
use Rattle.listing_parts.specs.TypesFound.{Stands, AllStand, EachStands}
use Rattle.listing_parts.proofs.Complete.{digits_stand, not_true, name_all}
use Rattle.listing_parts.proofs.Depth.{is_a_name}

abbrev pub feedless : List ℕ → Bool
feedless w = list_all (λ b. not (nat_eq b 10)) w

pub both_free : (v w : List ℕ) → feedless v ≡ true → feedless w ≡ true → feedless (v ++ w) ≡ true
both_free [] w a b = b
both_free (x ∷ v) w a b =
    let (one, others) = and_parts (not (nat_eq x 10)) _ a in
    and_from (not (nat_eq x 10)) _ one (both_free v w others b)

-- what stands behind the line that such a word ends
pub behind : (w r : List ℕ) → feedless w ≡ true → behind_feed (w ++ (10 ∷ r)) ≡ r
behind [] r h = refl
behind (b ∷ w) r h =
    let (one, others) = and_parts (not (nat_eq b 10)) _ h in
    rw (not_true (nat_eq b 10) one) (behind w r others)

no_feed : (b : ℕ) → stands_in_names b ≡ true → not (nat_eq b 10) ≡ true
no_feed b h = by (nat_eq b 10) refl
  where
    by : (v : Bool) → nat_eq b 10 ≡ v → not v ≡ true
    by true e = absurd (false≢true (sym (ap stands_in_names (eqb-true b 10 e)) ∙ h))
    by false e = refl

pub name_free : (name : List ℕ) → list_all stands_in_names name ≡ true → feedless name ≡ true
name_free [] h = refl
name_free (b ∷ name) h =
    let (one, others) = and_parts (stands_in_names b) _ h in
    and_from (not (nat_eq b 10)) _ (no_feed b one) (name_free name others)

pub decimal_free : (n : ℕ) → feedless (decimal n) ≡ true
decimal_free n = name_free (decimal n) (digits_stand (decimal n) (any_decimal n))

abbrev pub AllFree : List (List ℕ) → Type 0
AllFree words = Every (λ w. feedless w ≡ true) words

commas_free : (words : List (List ℕ)) → AllFree words → feedless (behind_commas words) ≡ true
commas_free [] h = refl
commas_free (w ∷ words) h = both_free (codes ", " ++ w) (behind_commas words) (both_free (codes ", ") w refl h.0) (commas_free words h.1)

joined_free : (words : List (List ℕ)) → AllFree words → feedless (joined words) ≡ true
joined_free [] h = refl
joined_free (w ∷ words) h = both_free w (behind_commas words) h.0 (commas_free words h.1)

pub row_free : (words : List (List ℕ)) → AllFree words → feedless (in_parentheses words) ≡ true
row_free words h = both_free (codes "(" ++ joined words) (codes ")") (both_free (codes "(") (joined words) refl (joined_free words h)) refl

pub braces_free : (words : List (List ℕ)) → AllFree words → feedless (in_braces words) ≡ true
braces_free [] h = refl
braces_free (w ∷ words) h =
    both_free (codes "{ " ++ joined (w ∷ words)) (codes " }") (both_free (codes "{ ") (joined (w ∷ words)) refl (joined_free (w ∷ words) h)) refl

pub tuple_free : (words : List (List ℕ)) → AllFree words → feedless (tuple_text words) ≡ true
tuple_free [] h = refl
tuple_free (w ∷ []) h = both_free (codes "(" ++ w) (codes ",)") (both_free (codes "(") w refl h.0) refl
tuple_free (w ∷ v ∷ words) h = row_free (w ∷ v ∷ words) h

pub kind_free : (kind : IntKind) → feedless (kind_text kind) ≡ true
kind_free IntKind.I32 = refl
kind_free IntKind.I64 = refl
kind_free IntKind.U32 = refl
kind_free IntKind.U64 = refl
kind_free IntKind.Usize = refl

pub array_free : (w : List ℕ) (count : ℕ) → feedless w ≡ true → feedless (codes "[" ++ w ++ codes "; " ++ decimal count ++ codes "]") ≡ true
array_free w count h =
    both_free (codes "[" ++ w ++ codes "; " ++ decimal count) (codes "]")
    (both_free (codes "[" ++ w ++ codes "; ") (decimal count) (both_free (codes "[" ++ w) (codes "; ") (both_free (codes "[") w refl h) refl) (decimal_free count)) refl

pub box_free : (w : List ℕ) → feedless w ≡ true → feedless (codes "Box<" ++ w ++ codes ">") ≡ true
box_free w h = both_free (codes "Box<" ++ w) (codes ">") (both_free (codes "Box<") w refl h) refl

mutual
  pub tree_free : (heads : ItemTable) (t : Tree) → Stands heads t → feedless (tree_text t) ≡ true
  tree_free heads (Number kind) s = kind_free kind
  tree_free heads Truth s = refl
  tree_free heads Nothing s = refl
  tree_free heads Never s = refl
  tree_free heads (Named name) s = name_free name (name_all name (is_a_name name s.0))
  tree_free heads (Tuple parts) s = tuple_free (trees_text parts) (trees_free heads parts s.1)
  tree_free heads (Array element count) s = array_free (tree_text element) count (tree_free heads element s.0)
  tree_free heads (Boxed inside) s = box_free (tree_text inside) (tree_free heads inside s)
  tree_free heads (Object name) s = both_free (codes "dyn ") name refl (name_free name (name_all name s.0))
  tree_free heads (Shared to) s = both_free (codes "&") (tree_text to) refl (tree_free heads to s)
  tree_free heads (Unique to) s = both_free (codes "&mut ") (tree_text to) refl (tree_free heads to s)
  tree_free heads (Closed n) s = both_free (codes "closure#") (decimal n) refl (decimal_free n)
  tree_free heads Missing s = absurd s

  pub trees_free : (heads : ItemTable) (ts : Trees) → AllStand heads ts → AllFree (trees_text ts)
  trees_free heads no_more s = tt
  trees_free heads (and_more first others) s = (tree_free heads first s.0, trees_free heads others s.1)

pub each_free : (heads : ItemTable) (ts : List Tree) → EachStands heads ts → AllFree (map tree_text ts)
each_free heads [] s = tt
each_free heads (t ∷ ts) s = (tree_free heads t s.0, each_free heads ts s.1)

pub variants_free : (heads : ItemTable) (vs : List (List ℕ × List Tree)) → VariantsStand heads vs → AllFree (map variant_words vs)
variants_free heads [] s = tt
variants_free heads (v ∷ vs) s = (
  both_free (v.0 ++ codes " ") (trees_in_row v.1) (both_free v.0 (codes " ") (name_free v.0 (name_all v.0 s.0.0)) refl) (row_free (map tree_text v.1) (each_free heads v.1 s.0.2)),
  variants_free heads vs s.1,
)

self_free : (unique : Bool) (name : List ℕ) → feedless name ≡ true → feedless (self_text unique name) ≡ true
self_free true name h = both_free (codes "&mut dyn ") name refl h
self_free false name h = both_free (codes "&dyn ") name refl h

params_free : (heads : ItemTable) (name : List ℕ) (ts : List Tree) → feedless name ≡ true → ParamsStand heads name ts → AllFree (map tree_text ts)
params_free heads name [] h s = absurd s
params_free heads name (t ∷ ts) h s = (ap feedless s.0.1 ∙ self_free s.0.0 name h, each_free heads ts s.1)

pub methods_free : (heads : ItemTable) (name : List ℕ) (ms : List (List ℕ × List Tree × Tree)) → feedless name ≡ true → MethodsStand heads name ms → AllFree (map method_words ms)
methods_free heads name [] h s = tt
methods_free heads name (m ∷ ms) h s = (
  both_free (m.0 ++ codes " " ++ trees_in_row m.1 ++ codes " ") (tree_text m.2)
      (both_free (m.0 ++ codes " " ++ trees_in_row m.1) (codes " ")
      (both_free (m.0 ++ codes " ") (trees_in_row m.1) (both_free m.0 (codes " ") (name_free m.0 (name_all m.0 s.0.named)) refl) (row_free (map tree_text m.1) (params_free heads name m.1 h s.0.params))) refl)
      (tree_free heads m.2 s.0.answer),
  methods_free heads name ms h s.1,
)

pub copy_free : (copy : Bool) → feedless (copy_text copy) ≡ true
copy_free true = refl
copy_free false = refl

pub drop_free : (body : Option ℕ) → feedless (drop_text body) ≡ true
drop_free None = refl
drop_free (Some n) = both_free (codes " drop ") (decimal n) refl (decimal_free n)
