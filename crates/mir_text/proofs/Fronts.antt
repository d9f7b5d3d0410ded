-- What was read of a text are the first lines of the graph that it tells.
use Rattle.std.proofs.Common.{◌≡◌, ℕ, Bool, true, false, List, [], ◌∷◌, ◌++◌, refl, ap, sym, subst, ◌∙◌, append_assoc, append-nil}
use Rattle.listing_write.specs.Lines.{Line, line_text}
use Rattle.listing_write.specs.Lists.{line}
use Rattle.listing_write.proofs.Reading.Basics.{Every}
use Rattle.mir_ty.specs.ItemTable.{ItemTable}
use Rattle.mir_text.specs.Beginning.{LineStands, texts}
use Rattle.mir_text.proofs.Sections.{texts-append, every_joined}

-- all of these lines, or all but the last
abbrev pub FrontOf : Bool → List Line → List Line → Type 0
FrontOf true lines front = lines ≡ front
FrontOf false lines front = (last : Line) × (lines ≡ front ++ last ∷ [])

-- these lines stand in front of what is left, but for the last where they are broken off
pub record Fronts (items : ItemTable) (lines : List Line) (whole : Bool) (t r : List ℕ) : Type 0 where
  pub front : List Line
  pub is : t ≡ texts front ++ r
  pub whole_is : FrontOf whole lines front
  pub stand : Every (LineStands items) lines

front_more : (whole : Bool) (before lines front : List Line) → FrontOf whole lines front → FrontOf whole (before ++ lines) (before ++ front)
front_more true before lines front h = ap (λ (ls : List Line). before ++ ls) h
front_more false before lines front h = (h.0, ap (λ (ls : List Line). before ++ ls) h.1 ∙ sym (append_assoc before front (h.0 ∷ [])))

module _ (items : ItemTable) where
  pub none_in_front : (t : List ℕ) → Fronts items [] true t t
  none_in_front t = record { front = []; is = refl; whole_is = refl; stand = tt }

  pub then_front : (before lines : List Line) (whole : Bool) (t s r : List ℕ) → Fronts items before true t s → Fronts items lines whole s r → Fronts items (before ++ lines) whole t r
  then_front before lines whole t s r a b = record {
    front = before ++ b.front;
    is = a.is ∙ (λ i. texts (sym a.whole_is i) ++ b.is i) ∙ sym (append_assoc (texts before) (texts b.front) r) ∙ ap (λ (w : List ℕ). w ++ r) (sym (texts-append before b.front));
    whole_is = front_more whole before lines b.front b.whole_is;
    stand = every_joined (LineStands items) before lines a.stand b.stand;
  }

  pub one_in_front : (l : Line) (t r : List ℕ) → t ≡ line (line_text l) ++ r → LineStands items l → Fronts items (l ∷ []) true t r
  one_in_front l t r is stand = record { front = l ∷ []; is = is ∙ ap (λ (w : List ℕ). w ++ r) (sym (append-nil (line (line_text l)))); whole_is = refl; stand = (stand, tt) }

  pub same_front : (lines other : List Line) (whole : Bool) (t r : List ℕ) → lines ≡ other → Fronts items lines whole t r → Fronts items other whole t r
  same_front lines other whole t r e f = subst (λ (ls : List Line). Fronts items ls whole t r) e f

  -- a line that is not there
  pub broken_off : (lines : List Line) (last : Line) (t r : List ℕ) → LineStands items last → Fronts items lines true t r → Fronts items (lines ++ last ∷ []) false t r
  broken_off lines last t r stand f = record {
    front = lines;
    is = f.is ∙ ap (λ (ls : List Line). texts ls ++ r) (sym f.whole_is);
    whole_is = (last, refl);
    stand = every_joined (LineStands items) lines (last ∷ []) f.stand (stand, tt);
  }
