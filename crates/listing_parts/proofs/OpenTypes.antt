-- What is found of the innermost type goes on into those that are open around it.
use Rattle.std.proofs.Common.{◌≡◌, ℕ, suc, ◌<◌, List, [], ◌∷◌, ◌++◌, length, codes, Option, Some, None, refl, ap, sym, subst, ◌∙◌, arith, append_assoc, append-nil}
use Rattle.std.proofs.lemmas.Option.{none-some}
use Rattle.mir_ty.specs.declared.ty.Ty.{Ty}
use Rattle.mir_ty.specs.declared.ty.TyId.{TyId}
use Rattle.mir_ty.specs.ItemTable.{ItemTable}
use Rattle.listing_write.specs.Reading.Rows.{many, many_within, after, comma, row, row_from}
use Rattle.listing_write.specs.Reading.Words.{FoundInText, bind, strip}
use Rattle.listing_write.specs.Types.{tuple_text}
use Rattle.listing_parts.specs.OpenTypes.{AreOpen, IsOpen, end_of_open, goes_on, row_of}
use Rattle.listing_parts.specs.Table.{AreRead, Grow}
use Rattle.listing_parts.specs.TypeReading.{row_end, tuple_from, type_read}
use Rattle.listing_parts.specs.declared.types.Open.{Open}
use Rattle.listing_parts.proofs.DepthFree.{comma_left, many_enough, read_shrinks}
use Rattle.listing_parts.proofs.FoundRows.{still_types}
use Rattle.listing_parts.proofs.LineByLine.{strip_sound}
use Rattle.listing_parts.proofs.Texts.{every_from_all, texts_grown}

module _ (heads : ItemTable) where
  abbrev reader : List ℕ → FoundInText (List ℕ)
  reader = type_read heads

  -- ---- open types, and one more
  pub nothing_goes_on : (items : ItemTable) (opens : List Open) → goes_on heads items opens None ≡ None
  nothing_goes_on items [] = refl
  nothing_goes_on items (outer ∷ opens) = ap (λ (f : FoundInText (List ℕ)). bind f (end_of_open heads items outer)) (nothing_goes_on items opens)

  pub one_more_open : (items : ItemTable) (opens : List Open) (outer : Open) (found : FoundInText (List ℕ)) →
      goes_on heads items (opens ++ outer ∷ []) found ≡ goes_on heads items opens (bind found (end_of_open heads items outer))
  one_more_open items [] outer found = refl
  one_more_open items (first ∷ opens) outer found = ap (λ (f : FoundInText (List ℕ)). bind f (end_of_open heads items first)) (one_more_open items opens outer found)

  pub are_open_more : (types : List Ty) (opens : List Open) (outer : Open) → AreOpen types opens → IsOpen types outer → AreOpen types (opens ++ outer ∷ [])
  are_open_more types [] outer all one = (one, tt)
  are_open_more types (first ∷ opens) outer all one = (all.0, are_open_more types opens outer all.1 one)

  pub are_open_less : (types : List Ty) (opens : List Open) (outer : Open) → AreOpen types (opens ++ outer ∷ []) → AreOpen types opens × IsOpen types outer
  are_open_less types [] outer all = (tt, all.0)
  are_open_less types (first ∷ opens) outer all = let rest = are_open_less types opens outer all.1 in ((all.0, rest.0), rest.1)

  -- ---- more types in the table
  module _ (old new : ItemTable) (read : AreRead heads old.types) (grow : Grow heads old new) where
    open_grown : (outer : Open) (f : List ℕ × List ℕ) → IsOpen old.types outer → end_of_open heads new outer f ≡ end_of_open heads old outer f
    open_grown (Open.Around around) f is = refl
    open_grown (Open.Row parts) f is =
        ap (λ (words : List (List ℕ)). row_of heads (words ++ f.0 ∷ []) f.1)
        (texts_grown heads old new read grow.others parts (every_from_all (λ (id : TyId). id.0 < length old.types) parts is))

    bind_same : (o : FoundInText (List ℕ)) (one other : List ℕ × List ℕ → FoundInText (List ℕ)) → ((f : List ℕ × List ℕ) → one f ≡ other f) → bind o one ≡ bind o other
    bind_same None one other same = refl
    bind_same (Some f) one other same = same f

    pub goes_on_grown : (opens : List Open) (found : FoundInText (List ℕ)) → AreOpen old.types opens → goes_on heads new opens found ≡ goes_on heads old opens found
    goes_on_grown [] found all = refl
    goes_on_grown (outer ∷ opens) found all =
        bind_same (goes_on heads new opens found) (end_of_open heads new outer) (end_of_open heads old outer) (λ f. open_grown outer f all.0)
        ∙ ap (λ (f : FoundInText (List ℕ)). bind f (end_of_open heads old outer)) (goes_on_grown opens found all.1)

    is_open_still : (outer : Open) → IsOpen old.types outer → IsOpen new.types outer
    is_open_still (Open.Around around) is = tt
    is_open_still (Open.Row parts) is = still_types heads old new parts grow is

    pub are_open_still : (opens : List Open) → AreOpen old.types opens → AreOpen new.types opens
    are_open_still [] all = tt
    are_open_still (outer ∷ opens) all = (is_open_still outer all.0, are_open_still opens all.1)

  -- ---- rows
  -- a row has one part, or is over
  pub row_begins : (t : List ℕ) → strip (codes ")") t ≡ None → tuple_from reader (row reader t) ≡ bind (reader t) (λ f. row_of heads (f.0 ∷ []) f.1)
  row_begins t none = by (reader t) refl
    where
      by : (o : FoundInText (List ℕ)) → reader t ≡ o → tuple_from reader (row_from reader (reader t) t) ≡ bind (reader t) (λ f. row_of heads (f.0 ∷ []) f.1)
      by None e = rw e (ap (λ (o : Option (List ℕ)). bind o (λ (r : List ℕ). Some (tuple_text [], r))) none)
      by (Some f) e = rw e refl

  pub row_is_empty : (t r : List ℕ) → strip (codes ")") t ≡ Some r → tuple_from reader (row reader t) ≡ Some (codes "()", r)
  row_is_empty t r h = subst (λ (s : List ℕ). tuple_from reader (row reader s) ≡ Some (codes "()", r)) (sym (strip_sound (codes ")") t r h)) refl

  -- no row ends before a comma and a blank
  no_end : (words : List (List ℕ)) (word : List ℕ) (t u : List ℕ) → strip (codes ", ") t ≡ Some u → row_end (words ++ word ∷ []) t ≡ None
  no_end words word t u h = subst (λ (s : List ℕ). row_end (words ++ word ∷ []) s ≡ None) (sym (strip_sound (codes ", ") t u h)) (by words)
    where
      by : (words : List (List ℕ)) → row_end (words ++ word ∷ []) (codes ", " ++ u) ≡ None
      by [] = refl
      by (one ∷ []) = refl
      by (one ∷ two ∷ more) = refl

  pub row_goes_on : (words : List (List ℕ)) (word t u : List ℕ) → strip (codes ", ") t ≡ Some u →
      row_of heads (words ++ word ∷ []) t ≡ bind (reader u) (λ f. row_of heads ((words ++ word ∷ []) ++ f.0 ∷ []) f.1)
  row_goes_on words word [] u h = absurd (none-some u h)
  row_goes_on words word (c ∷ cs) u h = by (reader u) refl
    where
      all : List (List ℕ)
      all = words ++ word ∷ []

      found : comma reader (c ∷ cs) ≡ reader u
      found = ap (λ (o : Option (List ℕ)). bind o reader) h

      made : List (List ℕ) × List ℕ → FoundInText (List ℕ)
      made q = tuple_from reader (all ++ q.0, q.1)

      by : (o : FoundInText (List ℕ)) → reader u ≡ o → row_of heads all (c ∷ cs) ≡ bind (reader u) (λ f. row_of heads (all ++ f.0 ∷ []) f.1)
      by None e =
          ap (λ (f : FoundInText (List ℕ)). made (after f (many_within (length cs) (comma reader)) (c ∷ cs))) (found ∙ e)
          ∙ ap (λ (ws : List (List ℕ)). tuple_from reader (ws, c ∷ cs)) (append-nil all)
          ∙ ap (λ (o : Option (List ℕ)). bind o (λ (r : List ℕ). Some (tuple_text all, r))) (no_end words word (c ∷ cs) u h)
          ∙ sym (ap (λ (f : FoundInText (List ℕ)). bind f (λ f. row_of heads (all ++ f.0 ∷ []) f.1)) e)
      by (Some f) e =
          ap (λ (f : FoundInText (List ℕ)). made (after f (many_within (length cs) (comma reader)) (c ∷ cs))) (found ∙ e)
          ∙ ap (λ (q : List (List ℕ) × List ℕ). made (f.0 ∷ q.0, q.1)) enough
          ∙ ap (λ (ws : List (List ℕ)). tuple_from reader (ws, (many (comma reader) f.1).1)) (sym (append_assoc all (f.0 ∷ []) (many (comma reader) f.1).0))
          ∙ sym (ap (λ (f : FoundInText (List ℕ)). bind f (λ f. row_of heads (all ++ f.0 ∷ []) f.1)) e)
        where
          shorter : length f.1 < suc (length cs)
          shorter = comma_left reader (read_shrinks heads) (c ∷ cs) f (found ∙ e)

          enough : many_within (length cs) (comma reader) f.1 ≡ many (comma reader) f.1
          enough = many_enough reader (read_shrinks heads) (length cs) (length f.1) f.1 (omega (arith, shorter)) (omega arith)

  pub row_stops_here : (words : List (List ℕ)) (t : List ℕ) → strip (codes ", ") t ≡ None → row_of heads words t ≡ tuple_from reader (words, t)
  row_stops_here words [] h = ap (λ (ws : List (List ℕ)). tuple_from reader (ws, [])) (append-nil words)
  row_stops_here words (c ∷ cs) h =
      ap (λ (f : FoundInText (List ℕ)). made (after f (many_within (length cs) (comma reader)) (c ∷ cs))) (ap (λ (o : Option (List ℕ)). bind o reader) h)
      ∙ ap (λ (ws : List (List ℕ)). tuple_from reader (ws, c ∷ cs)) (append-nil words)
    where
      made : List (List ℕ) × List ℕ → FoundInText (List ℕ)
      made q = tuple_from reader (words ++ q.0, q.1)
