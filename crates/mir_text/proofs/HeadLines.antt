-- The name of a line of a struct, enum or trait is found as a head.
use Rattle.std.proofs.Common.{◌≡◌, ℕ, Bool, true, List, [], ◌∷◌, ◌++◌, map, codes, Option, Some, refl, ap, sym, ◌∙◌}
use Rattle.std.specs.Prelude.{⊤}
use Rattle.std.specs.Str.{is_utf8}
use Rattle.cfg_graph.specs.WellFormed.NameFaults.{is_name}
use Rattle.mir_ty.specs.ItemTable.{ItemTable}
use Rattle.listing_write.specs.Items.{copy_text, drop_text}
use Rattle.listing_write.specs.Lines.{Tree, Line, HeadLine, StructLine, EnumLine, TraitLine, ImplLine, ClosureLine, BodyLine, LocalLine, BlockLine, MakeLine, UnsizeLine, StmtLine, VirtualLine, TermLine, EndLine, line_text, tree_text, trees_in_row, variant_words, method_words}
use Rattle.listing_write.specs.Lists.{line, in_braces}
use Rattle.listing_write.specs.Reading.Words.{FoundInText, bind, or_else, strip}
use Rattle.listing_write.proofs.Reading.Basics.{behind3, behind5, behind7}
use Rattle.mir_text.specs.Beginning.{LineStands}
use Rattle.mir_text.proofs.Free.{feedless, both_free, behind, row_free, braces_free, each_free, variants_free, methods_free, copy_free, drop_free, name_free}
use Rattle.listing_lines.specs.ItemReading.{blank_behind}
use Rattle.listing_lines.proofs.Complete.{name_reads}
use Rattle.mir_text.specs.HeadReading.{behind_feed, named_line, adt_head, trait_head}
use Rattle.listing_parts.proofs.Complete.{name_all}
use Rattle.listing_parts.proofs.Depth.{is_a_name}

named : (name tail r : List ℕ) → is_name name ≡ true → is_utf8 name ≡ true → feedless tail ≡ true → named_line (name ++ (codes " " ++ (tail ++ (10 ∷ r)))) ≡ Some (name, r)
named name tail r is utf free =
    ap (λ (f : FoundInText (List ℕ)). bind (bind f blank_behind) (λ f. Some (f.0, behind_feed f.1))) (name_reads name (tail ++ (10 ∷ r)) is utf)
    ∙ ap (λ (x : List ℕ). Some (name, x)) (behind tail r free)

-- the line of a struct or enum, behind its word
pub adt_line_named : (word name row : List ℕ) (copy : Bool) (body : Option ℕ) (r : List ℕ) → or_else (strip (codes "struct ") (word ++ (name ++ (codes " " ++ ((row ++ copy_text copy ++ drop_text body) ++ (10 ∷ r)))))) (strip (codes "enum ") (word ++ (name ++ (codes " " ++ ((row ++ copy_text copy ++ drop_text body) ++ (10 ∷ r))))))
    ≡ Some (name ++ (codes " " ++ ((row ++ copy_text copy ++ drop_text body) ++ (10 ∷ r)))) → is_name name ≡ true → is_utf8 name ≡ true → feedless row ≡ true
    → adt_head (line (word ++ name ++ codes " " ++ row ++ copy_text copy ++ drop_text body) ++ r) ≡ Some (name, r)
adt_line_named word name row copy body r at is utf free =
    let tail : List ℕ = row ++ copy_text copy ++ drop_text body in
    let split : line (word ++ name ++ codes " " ++ row ++ copy_text copy ++ drop_text body) ++ r ≡ word ++ (name ++ (codes " " ++ (tail ++ (10 ∷ r)))) =
    behind7 word name (codes " ") row (copy_text copy) (drop_text body) (10 ∷ []) r
    ∙ ap (λ (x : List ℕ). word ++ (name ++ (codes " " ++ x))) (sym (behind3 row (copy_text copy) (drop_text body) (10 ∷ r))) in
    ap adt_head split ∙ ap (λ (o : Option (List ℕ)). bind o named_line) at
    ∙ named name tail r is utf (both_free (row ++ copy_text copy) (drop_text body) (both_free row (copy_text copy) free (copy_free copy)) (drop_free body))

pub trait_line_named : (name row r : List ℕ) → is_name name ≡ true → is_utf8 name ≡ true → feedless row ≡ true → trait_head (line (codes "trait " ++ name ++ codes " " ++ row) ++ r) ≡ Some (name, r)
trait_line_named name row r is utf free =
    let split : line (codes "trait " ++ name ++ codes " " ++ row) ++ r ≡ codes "trait " ++ (name ++ (codes " " ++ (row ++ (10 ∷ r)))) = behind5 (codes "trait ") name (codes " ") row (10 ∷ []) r in
    ap trait_head split ∙ named name row r is utf free

-- the name in a line
abbrev pub adt_in : Line → List ℕ
adt_in (StructLine name fields copy drop_body) = name
adt_in (EnumLine name variants copy drop_body) = name
adt_in _ = []

abbrev pub IsAdtLine : Line → Type 0
IsAdtLine (StructLine name fields copy drop_body) = ⊤
IsAdtLine (EnumLine name variants copy drop_body) = ⊤
IsAdtLine _ = ⊥

pub adt_head_of : (items : ItemTable) (l : Line) (r : List ℕ) → IsAdtLine l → LineStands items l → adt_head (line (line_text l) ++ r) ≡ Some (adt_in l, r)
adt_head_of items (StructLine name fields copy drop_body) r is s =
    adt_line_named (codes "struct ") name (trees_in_row fields) copy drop_body r refl (is_a_name name s.0) s.1 (row_free (map tree_text fields) (each_free items fields s.2))
adt_head_of items (EnumLine name variants copy drop_body) r is s =
    adt_line_named (codes "enum ") name (in_braces (map variant_words variants)) copy drop_body r refl (is_a_name name s.0) s.1 (braces_free (map variant_words variants) (variants_free items variants s.2))
adt_head_of items other r is s = absurd is

pub trait_head_of : (items : ItemTable) (name : List ℕ) (methods : List (List ℕ × List Tree × Tree)) (r : List ℕ) → LineStands items (TraitLine name methods) → trait_head (line (line_text (TraitLine name methods)) ++ r) ≡ Some (name, r)
trait_head_of items name methods r s =
    trait_line_named name (in_braces (map method_words methods)) r s.0 s.1 (braces_free (map method_words methods) (methods_free items name methods (name_free name (name_all name s.0)) s.2))
