-- Each line that may stand in its place is found.
use Rattle.std.proofs.Common.{◌≡◌, ℕ, ◌<◌, Bool, true, nat_eq, nat_lt, if◌then◌else◌, List, [], ◌∷◌, ◌++◌, map, flat_map, length, codes, Option, Some, None, decimal, refl, ap, ◌∙◌, arith, append_assoc, eq-eqb, map-id}
use Rattle.std.specs.Str.{is_utf8}
use Rattle.std.proofs.lemmas.Bool.{and_parts, and_from}
use Rattle.mir_ty.specs.declared.adt.Adt.{Adt}
use Rattle.mir_ty.specs.declared.def.TraitDef.{TraitDef}
use Rattle.mir_ty.specs.ItemTable.{ItemTable}
use Rattle.cfg_graph.specs.declared.graph.Kind.{Kind}
use Rattle.cfg_graph.specs.WellFormed.NameFaults.{stands_in_names, is_name}
use Rattle.listing_write.specs.Fields.{Fits}
use Rattle.listing_write.specs.Lines.{tree_text, trees_in_row}
use Rattle.listing_write.specs.Listing.{kind_word}
use Rattle.listing_write.specs.Reading.Lines.{ended}
use Rattle.listing_write.specs.Reading.Rows.{many}
use Rattle.listing_write.specs.Reading.Words.{FoundInText, bind, as_, strip}
use Rattle.listing_write.proofs.Reading.Basics.{Every, behind7, span_run, stops}
use Rattle.listing_write.proofs.Reading.Parts.{every_from_all}
use Rattle.listing_write.proofs.Reading.Rows.{many_reads, flat_counted}
use Rattle.listing_parts.specs.Numbers.{adt_no, trait_no}
use Rattle.listing_parts.proofs.LineByLine.{strip_whole}
use Rattle.listing_parts.specs.TypeReading.{type_read, types_read}
use Rattle.listing_parts.specs.TypesFound.{no_digit_at}
use Rattle.listing_parts.proofs.Complete.{type_reads, rows_read, found_at, name_all}
use Rattle.listing_parts.proofs.PlainNumbers.{plain_read}
use Rattle.listing_lines.specs.LineReading.{due_number, named, name_read, params_from, body_read, local_read, kind_read, rank_from, block_read, captures_from, closure_read, blank_number, bodies_read, adt_called, known_adt_read, trait_called, known_trait_read, for_adt, impl_read}
use Rattle.listing_lines.specs.LinesFound.{BodiesAreRead, LocalsAreRead, BlocksAreRead, ClosuresAreRead, ImplsAreRead}

due_reads : (n : ℕ) (r : List ℕ) → Fits n → due_number n (decimal n ++ (codes " " ++ r)) ≡ Some (codes " " ++ r)
due_reads n r fits =
    ap (λ (f : FoundInText ℕ). bind f (λ k. if nat_eq k.0 n then Some k.1 else None)) (plain_read n (codes " " ++ r) fits refl)
    ∙ ap (λ (t : Bool). if t then Some (codes " " ++ r) else None) (eq-eqb n n refl)

-- behind a word, the number that is due and a blank
headed : (word : List ℕ) (n : ℕ) (r : List ℕ) → Fits n → bind (strip word (word ++ (decimal n ++ (codes " " ++ r)))) (λ t. bind (due_number n t) (strip (codes " "))) ≡ Some r
headed word n r fits =
    ap (λ (o : Option (List ℕ)). bind o (λ t. bind (due_number n t) (strip (codes " ")))) (strip_whole word (decimal n ++ (codes " " ++ r)))
    ∙ ap (λ (o : Option (List ℕ)). bind o (strip (codes " "))) (due_reads n r fits)

pub name_reads : (name r : List ℕ) → is_name name ≡ true → is_utf8 name ≡ true → name_read (name ++ (codes " " ++ r)) ≡ Some (name, codes " " ++ r)
name_reads name r is utf =
    ap named (span_run stands_in_names name (codes " " ++ r) (name_all name is) refl)
    ∙ ap (λ (t : Bool). if t then Some (name, codes " " ++ r) else None) (and_from (nat_lt 0 (length name)) (is_utf8 name) (and_parts (nat_lt 0 (length name)) _ is).0 utf)

pub bodies_read_ : BodiesAreRead
bodies_read_ n name params r fits is utf count =
    let at_params : List ℕ = decimal params ++ (10 ∷ r) in
    let at_name : List ℕ = name ++ (codes " " ++ at_params) in
    let split : ((codes "body " ++ decimal n ++ codes " " ++ name ++ codes " " ++ decimal params) ++ 10 ∷ []) ++ r ≡ codes "body " ++ (decimal n ++ (codes " " ++ at_name)) = simp append_assoc refl in
    ap (body_read n) split
    ∙ ap (λ (o : Option (List ℕ)). bind o (λ t. bind (strip (codes " ") t) (λ t. bind (name_read t) (λ name. ended (params_from name))))) (due_reads n at_name fits)
    ∙ ap (λ (f : FoundInText (List ℕ)). bind f (λ name. ended (params_from name))) (name_reads name at_params is utf)
    ∙ ap (λ (f : FoundInText ℕ). ended (as_ (λ params. (name, params)) f)) (plain_read params (10 ∷ r) count refl)

pub locals_read_ : LocalsAreRead
locals_read_ heads n type r fits stands =
    let w : List ℕ = tree_text type in
    let at_type : List ℕ = w ++ (10 ∷ r) in
    let split : ((codes "local " ++ decimal n ++ codes " " ++ w) ++ 10 ∷ []) ++ r ≡ codes "local " ++ (decimal n ++ (codes " " ++ at_type)) = simp append_assoc refl in
    ap (local_read heads n) split
    ∙ ap (λ (o : Option (List ℕ)). bind o (λ t. ended (type_read heads t))) (headed (codes "local ") n at_type fits)
    ∙ ap ended (type_reads heads type stands (10 ∷ r) refl)

kind_reads_ : (kind : Kind) (r : List ℕ) → kind_read (kind_word kind ++ r) ≡ Some (kind, r)
kind_reads_ Kind.Plain r = refl
kind_reads_ Kind.Turn r = refl
kind_reads_ Kind.Cleanup r = refl

pub blocks_read_ : BlocksAreRead
blocks_read_ n kind rank r fits count =
    let at_rank : List ℕ = decimal rank ++ (10 ∷ r) in
    let at_kind : List ℕ = kind_word kind ++ (codes " rank " ++ at_rank) in
    let split : ((codes "block " ++ decimal n ++ codes " " ++ kind_word kind ++ codes " rank " ++ decimal rank) ++ 10 ∷ []) ++ r ≡ codes "block " ++ (decimal n ++ (codes " " ++ at_kind)) = simp append_assoc refl in
    ap (block_read n) split
    ∙ ap (λ (o : Option (List ℕ)). bind o (λ t. bind (strip (codes " ") t) (λ t. bind (kind_read t) (λ kind. ended (rank_from kind))))) (due_reads n at_kind fits)
    ∙ ap (λ (f : FoundInText Kind). bind f (λ kind. ended (rank_from kind))) (kind_reads_ kind (codes " rank " ++ at_rank))
    ∙ ap (λ (f : FoundInText ℕ). ended (as_ (λ rank. (kind, rank)) f)) (plain_read rank (10 ∷ r) count refl)

pub closures_read_ : ClosuresAreRead
closures_read_ heads n captures body r fits stand count =
    let row : List ℕ = trees_in_row captures in
    let at_body : List ℕ = decimal body ++ (10 ∷ r) in
    let at_row : List ℕ = row ++ (codes " " ++ at_body) in
    ap (closure_read heads n) (behind7 (codes "closure ") (decimal n) (codes " ") row (codes " ") (decimal body) (10 ∷ []) r)
    ∙ ap (λ (o : Option (List ℕ)). bind o (λ t. bind (types_read heads t) captures_from)) (headed (codes "closure ") n at_row fits)
    ∙ ap (λ (f : FoundInText (List (List ℕ))). bind f captures_from) (rows_read heads captures stand (codes " " ++ at_body))
    ∙ ap (λ (f : FoundInText ℕ). as_ (λ body. (map tree_text captures, body)) (ended f)) (plain_read body (10 ∷ r) count refl)

adt_reads : (heads : ItemTable) (name r : List ℕ) → is_name name ≡ true → adt_no heads name < length heads.adts → stops stands_in_names r ≡ true → known_adt_read heads (name ++ r) ≡ Some (adt_no heads name, r)
adt_reads heads name r is there s =
    let (adt, at) = found_at heads.adts (adt_no heads name) there in
    ap (adt_called heads) (span_run stands_in_names name r (name_all name is) s) ∙ ap (λ (o : Option Adt). bind o (λ adt. Some (adt_no heads name, r))) at

trait_reads : (heads : ItemTable) (name r : List ℕ) → is_name name ≡ true → trait_no heads name < length heads.traits → stops stands_in_names r ≡ true → known_trait_read heads (name ++ r) ≡ Some (trait_no heads name, r)
trait_reads heads name r is there s =
    let (def, at) = found_at heads.traits (trait_no heads name) there in
    ap (trait_called heads) (span_run stands_in_names name r (name_all name is) s) ∙ ap (λ (o : Option TraitDef). bind o (λ def. Some (trait_no heads name, r))) at

numbers_read : (bodies : List ℕ) → Every Fits bodies → (r : List ℕ) → many blank_number (flat_map (λ n. codes " " ++ decimal n) bodies ++ (10 ∷ r)) ≡ (bodies, 10 ∷ r)
numbers_read bodies fits r =
    ap (λ (w : List ℕ). many blank_number (w ++ (10 ∷ r))) (flat_counted (λ n. codes " " ++ decimal n) 0 bodies)
    ∙ many_reads blank_number (λ (k : ℕ) n. codes " " ++ decimal n) (λ n. n) Fits (λ r. no_digit_at r ≡ true) (λ k n f r e. plain_read n r f e) (λ k n f r. refl) (λ k n. omega arith) 0 bodies (10 ∷ r) fits refl refl
    ∙ ap (λ (xs : List ℕ). (xs, 10 ∷ r)) (map-id bodies)

bodies_stop : (bodies r : List ℕ) → stops stands_in_names (flat_map (λ n. codes " " ++ decimal n) bodies ++ (10 ∷ r)) ≡ true
bodies_stop [] r = refl
bodies_stop (n ∷ bodies) r = refl

pub impls_read_ : ImplsAreRead
impls_read_ heads trait adt bodies r is_trait is_adt there_trait there_adt fits =
    let numbers : List ℕ = flat_map (λ n. codes " " ++ decimal n) bodies in
    let at_numbers : List ℕ = numbers ++ (10 ∷ r) in
    let at_adt : List ℕ = adt ++ at_numbers in
    let split : ((codes "impl " ++ trait ++ codes " for " ++ adt ++ numbers) ++ 10 ∷ []) ++ r ≡ codes "impl " ++ (trait ++ (codes " for " ++ at_adt)) = simp append_assoc refl in
    ap (impl_read heads) split
    ∙ ap (λ (f : FoundInText ℕ). bind (bind f (for_adt heads)) (λ q. bodies_read q.0.0 q.0.1 q.1)) (trait_reads heads trait (codes " for " ++ at_adt) is_trait there_trait refl)
    ∙ ap (λ (f : FoundInText ℕ). bind (as_ {Y = ℕ × ℕ} (λ adt. (trait_no heads trait, adt)) f) (λ q. bodies_read q.0.0 q.0.1 q.1)) (adt_reads heads adt at_numbers is_adt there_adt (bodies_stop bodies r))
    ∙ ap (λ (q : List ℕ × List ℕ). ended (Some (record { trait_no = trait_no heads trait; adt = adt_no heads adt; bodies = q.0 }, q.1))) (numbers_read bodies (every_from_all Fits bodies fits) r)
