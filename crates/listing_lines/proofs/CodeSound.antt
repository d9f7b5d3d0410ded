-- What is found of a statement or a terminator is the line in front, with names that are there and numbers that fit.
use Rattle.std.proofs.Common.{◌≡◌, ℕ, zero, suc, ◌<◌, Bool, true, false, nat_lt, if◌then◌else◌, List, [], ◌∷◌, ◌++◌, map, length, Option, Some, None, slice_get, refl, ap, sym, subst, ◌∙◌, arith, ltb-true}
use Rattle.std.proofs.lemmas.Bool.{and_parts, eq-eqb}
use Rattle.std.proofs.lemmas.Option.{none-some, same_Some}
use Rattle.cfg_graph.specs.WellFormed.NameFaults.{same_name, is_name, is_adt_name}
use Rattle.cfg_graph.specs.declared.statement.Stmt.{Stmt}
use Rattle.cfg_graph.specs.declared.terminator.Term.{Term}
use Rattle.mir_ty.specs.declared.adt.Adt.{Adt}
use Rattle.mir_ty.specs.declared.def.TraitDef.{TraitDef}
use Rattle.mir_ty.specs.ItemTable.{ItemTable}
use Rattle.mir_ty.specs.Named.{adt_name, name_of_adt}
use Rattle.listing_write.specs.Fields.{StmtFits, TermFits}
use Rattle.listing_write.specs.Lines.{line_text, line_of_stmt, line_of_term}
use Rattle.listing_write.specs.Lists.{line}
use Rattle.listing_write.specs.Parts.{stmt_text, term_text}
use Rattle.listing_write.specs.Reading.Lines.{stmt_read, term_read}
use Rattle.listing_write.specs.Reading.Words.{place_in}
use Rattle.listing_write.specs.Types.{trait_name, name_of_trait}
use Rattle.listing_write.proofs.Reading.Basics.{Every}
use Rattle.listing_write.proofs.Reading.Parts.{every_from_all}
use Rattle.listing_parts.specs.LinesFound.{behind_line}
use Rattle.listing_parts.specs.Numbers.{adt_no, trait_no}
use Rattle.listing_parts.proofs.LineByLine.{line_sound}
use Rattle.listing_parts.proofs.Splits.{split, same_found}
use Rattle.listing_parts.proofs.Complete.{found_at}
use Rattle.listing_lines.specs.CodeFound.{StatementsAreSound, TerminatorsAreSound}
use Rattle.listing_lines.specs.CodeReading.{names_stmt, names_term, behind_stmt, behind_term, stmt_from, term_from}
use Rattle.listing_lines.specs.CodeStands.{IsAdtName, IsTraitName, AreNames, StmtLineStands, TermLineStands}
use Rattle.listing_lines.proofs.Fitting.{stmt_fits, term_fits}

same_self : (name : List ℕ) → same_name name name ≡ true
same_self [] = refl
same_self (b ∷ bs) = rw (eq-eqb b b refl) (same_self bs)

-- a name of the list is found in it, and what holds of all holds of it
module _ {X : Type 0} (name_of : X → List ℕ) (P : X → Type 0) where
  pub is_there : (xs : List X) (n : ℕ) (x : X) → Every P xs → slice_get xs n ≡ Some x → P x × (place_in (map name_of xs) (name_of x) < length xs)
  is_there [] n x all h = absurd (none-some x h)
  is_there (y ∷ ys) zero x all h =
      let same : y ≡ x = same_Some y x h in
      (subst P same all.0, rw (ap (λ (z : X). same_name (name_of x) (name_of z)) same ∙ same_self (name_of x)) (omega arith))
  is_there (y ∷ ys) (suc n) x all h =
      let (p, deeper) = is_there ys n x all.1 h in
      (p, by (same_name (name_of x) (name_of y)) deeper)
    where
      by : (v : Bool) → place_in (map name_of ys) (name_of x) < length ys → (if v then 0 else suc (place_in (map name_of ys) (name_of x))) < suc (length ys)
      by true d = omega arith
      by false d = omega (arith, d)

module _ (heads : ItemTable) (names : AreNames heads) where
  adt_there : (n : ℕ) → nat_lt n (length heads.adts) ≡ true → IsAdtName heads (adt_name heads n)
  adt_there n h =
      let (adt, is) = found_at heads.adts n (ltb-true n (length heads.adts) h) in
      let (named, place) = is_there (λ (adt : Adt). adt.name) (λ (adt : Adt). is_adt_name adt.name ≡ true) heads.adts n adt (every_from_all (λ (adt : Adt). is_adt_name adt.name ≡ true) heads.adts names.adts) is in
      subst (IsAdtName heads) (sym (ap name_of_adt is)) ((and_parts (is_name adt.name) _ ((and_parts _ _ named).0)).0, place)

  trait_there : (n : ℕ) → nat_lt n (length heads.traits) ≡ true → IsTraitName heads (trait_name heads n)
  trait_there n h =
      let (def, is) = found_at heads.traits n (ltb-true n (length heads.traits) h) in
      let (named, place) = is_there (λ (def : TraitDef). def.name) (λ (def : TraitDef). is_name def.name ≡ true) heads.traits n def (every_from_all (λ (def : TraitDef). is_name def.name ≡ true) heads.traits names.traits) is in
      subst (IsTraitName heads) (sym (ap name_of_trait is)) (named, place)

  stmt_stands : (stmt : Stmt) → StmtFits stmt → names_stmt heads stmt ≡ true → StmtLineStands heads (line_of_stmt heads stmt)
  stmt_stands (Stmt.Make to adt variant parts) fits h = (fits.0, adt_there adt h, fits.1, fits.2)
  stmt_stands (Stmt.Unsize to trait_no from) fits h = (fits.0, trait_there trait_no h, fits.1)
  stmt_stands other fits h = (fits, tt)

  term_stands : (term : Term) → TermFits term → names_term heads term ≡ true → TermLineStands heads (line_of_term heads term)
  term_stands (Term.Virtual to trait_no method args next unwind) fits h = (fits.0, trait_there trait_no h, fits.1, fits.2, fits.3)
  term_stands other fits h = (fits, tt)

stmt_same : (heads : ItemTable) (stmt : Stmt) → stmt_text heads stmt ≡ line_text (line_of_stmt heads stmt)
stmt_same heads (Stmt.Make to adt variant parts) = refl
stmt_same heads (Stmt.Unsize to trait_no from) = refl
stmt_same heads _ = refl

term_same : (heads : ItemTable) (term : Term) → term_text heads term ≡ line_text (line_of_term heads term)
term_same heads (Term.Virtual to trait_no method args next unwind) = refl
term_same heads _ = refl

-- a line that was tested for its names
passed : (v : Bool) (o : Option (List ℕ)) (u : List ℕ) → (if v then o else None) ≡ Some u → (v ≡ true) × (o ≡ Some u)
passed true o u h = (refl, h)
passed false o u h = absurd (none-some u h)

pub statements_sound : StatementsAreSound
statements_sound heads names text stmt behind h =
    let (f, found, more) = split (stmt_read (adt_no heads) (trait_no heads) text) (stmt_from heads text) (stmt, behind) h in
    let (u, rest, last) = split (behind_stmt heads text f.0) (λ r. Some (f.0, r)) (stmt, behind) more in
    let (own, back) = same_found f.0 u stmt behind last in
    let (named, at_line) = passed (names_stmt heads f.0) (behind_line (stmt_text heads f.0) text) u rest in
    let fits : StmtFits f.0 = stmt_fits (adt_no heads) (trait_no heads) text f.0 f.1 found in (
      line_sound (stmt_text heads f.0) text u at_line ∙ (λ i. line ((ap (stmt_text heads) own ∙ stmt_same heads stmt) i) ++ back i),
      subst (λ (s : Stmt). StmtLineStands heads (line_of_stmt heads s)) own (stmt_stands heads names f.0 fits named),
    )

pub terminators_sound : TerminatorsAreSound
terminators_sound heads names text term behind h =
    let (f, found, more) = split (term_read (adt_no heads) (trait_no heads) text) (term_from heads text) (term, behind) h in
    let (u, rest, last) = split (behind_term heads text f.0) (λ r. Some (f.0, r)) (term, behind) more in
    let (own, back) = same_found f.0 u term behind last in
    let (named, at_line) = passed (names_term heads f.0) (behind_line (term_text heads f.0) text) u rest in
    let fits : TermFits f.0 = term_fits (adt_no heads) (trait_no heads) text f.0 f.1 found in (
      line_sound (term_text heads f.0) text u at_line ∙ (λ i. line ((ap (term_text heads) own ∙ term_same heads term) i) ++ back i),
      subst (λ (s : Term). TermLineStands heads (line_of_term heads s)) own (term_stands heads names f.0 fits named),
    )
