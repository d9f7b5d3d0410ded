-- How many of the innermost scopes code may change.
use Rattle.std.proofs.Common.{◌≡◌, ◌∙◌, ◌∷◌, ◌++◌, ◌+◌, ◌-◌, ◌≤◌, ℕ, zero, suc, Bool, true, false, List, [], Option, Some, None, length, drop, drop-drop, refl, sym, ap, subst, arith}
use Rattle.std.proofs.lemmas.Option.{none-some, slice_get-map}
use Rattle.std.specs.Prelude.{map, option_map, slice_get}
use Rattle.lower_rules.specs.Build.{LoweringFrame, Lowers, outer, after_either}
use Rattle.lower_rules.specs.Codes.{lowers}
use Rattle.src_meaning.specs.Scopes.{Entry, Scope, Scopes, with_scope, innermost, around_innermost, with_entry, without_pending}
use Rattle.lower_code.specs.Code as code
use Rattle.lower_code.specs.Code.{Code, Change, changed_by}
use Rattle.lower_code.specs.Ops as ops
use Rattle.lower_code.specs.Ops.{CodeWord}
use Rattle.lower_code.specs.View.{op_of}
use Rattle.lower_code.specs.declared.code.CodeWord as words
use Rattle.lower_passes.specs.Spans.{OneBefore, TwoBefore, Stands}
use Rattle.lower_passes.specs.declared.marks.CodeMark.{CodeMark}
use Rattle.lower_passes.proofs.Reading.{reads, IsOne, IsTwo}
use Rattle.lower_passes.specs.Reaching.{Keeps, reach_at, AreReaches}

-- one that changes fewer scopes
pub keeps_more : (n m : ℕ) (g : Scopes → Scopes) → n ≤ m → Keeps (Some n) g → Keeps (Some m) g
keeps_more n m g less keeps = λ S.
    let whole : n + (m - n) ≡ m = omega arith in
    ap (λ (k : ℕ). drop k (g S)) (sym whole) ∙ sym (drop-drop (m - n) n (g S)) ∙ ap (drop (m - n)) (keeps S)
    ∙ drop-drop (m - n) n S ∙ ap (λ (k : ℕ). drop k S) whole

-- one and then another
pub keeps_both : (r : Option ℕ) (g h : Scopes → Scopes) → Keeps r g → Keeps r h → Keeps r (λ S. h (g S))
keeps_both None g h one another = tt
keeps_both (Some n) g h one another = λ S. another (g S) ∙ one S

-- one that does the same
pub keeps_same : (r : Option ℕ) (g h : Scopes → Scopes) → ((S : Scopes) → g S ≡ h S) → Keeps r h → Keeps r g
keeps_same None g h same keeps = tt
keeps_same (Some n) g h same keeps = λ S. ap (drop n) (same S) ∙ keeps S

-- in a scope of its own
drop_outer : (f : LoweringFrame) (n : ℕ) (S : Scopes) → drop n (outer f S) ≡ drop (suc n) S
drop_outer f zero [] = refl
drop_outer f (suc n) [] = refl
drop_outer f n (s ∷ S) = refl

pub keeps_around : (f : LoweringFrame) (n m : ℕ) (g : Scopes → Scopes) (node : ℕ) (t : Bool) → n ≤ suc m → Keeps (Some n) g → Keeps (Some m) (λ S. outer f (g (with_scope node t S)))
keeps_around f n m g node t less keeps = λ S.
    drop_outer f m (g (with_scope node t S)) ∙ keeps_more n (suc m) g less keeps (with_scope node t S)

-- changes
pub keeps_innermost : (change : Scope → Scope) → Keeps (Some 1) (innermost change)
keeps_innermost change [] = refl
keeps_innermost change (s ∷ S) = refl

pub keeps_two : (change : Scope → Scope) → Keeps (Some 2) (around_innermost change)
keeps_two change [] = refl
keeps_two change (s ∷ []) = refl
keeps_two change (s ∷ (t ∷ S)) = refl

pub keeps_name : (e : Entry) → Keeps (Some 2) (changed_by (Change.Names e))
keeps_name e =
    keeps_both (Some 2) (innermost (without_pending e)) (around_innermost (with_entry e))
    (keeps_more 1 2 (innermost (without_pending e)) (omega arith) (keeps_innermost (without_pending e))) (keeps_two (with_entry e))

-- one of two
pub keeps_either : (r : Option ℕ) (b : Bool) (P Q : Lowers) → Keeps r P.after → Keeps r Q.after → Keeps r (after_either b P Q)
keeps_either None b P Q one another = tt
keeps_either (Some n) true P Q one another = one
keeps_either (Some n) false P Q one another = another

-- what is noted at one more word
pub noted_more : (P : ℕ → Option ℕ → Type 0) (rs : List (Option ℕ)) (r : Option ℕ) → P (length rs) r → ((e : ℕ) → P e (reach_at rs e)) → (e : ℕ) → P e (reach_at (rs ++ r ∷ []) e)
noted_more P [] r own others zero = own
noted_more P [] r own others (suc e) = others (suc e)
noted_more P (x ∷ rs) r own others zero = others zero
noted_more P (x ∷ rs) r own others (suc e) =
    noted_more (λ (i : ℕ) (o : Option ℕ). P (suc i) o) rs r own (λ (i : ℕ). others (suc i)) e

pub none_noted : (f : LoweringFrame) (words : List CodeWord) (marks : List CodeMark) → AreReaches f words marks []
none_noted f words marks c start end stands = tt

pub one_noted : (f : LoweringFrame) (words : List CodeWord) (marks : List CodeMark) (rs : List (Option ℕ)) (r : Option ℕ) → ((c : Code) (start : ℕ) → Stands f words marks c start (length rs) → Keeps r (lowers f c).after) → AreReaches f words marks rs → AreReaches f words marks (rs ++ r ∷ [])
one_noted f words marks rs r own known c start end stands =
    noted_more (λ (e : ℕ) (o : Option ℕ). (d : Code) (s : ℕ) → Stands f words marks d s e → Keeps o (lowers f d).after) rs r own
    (λ (e : ℕ) (d : Code) (s : ℕ) at. known d s e at) end c start stands

-- by the word of code
module _ (f : LoweringFrame) (all : List CodeWord) (marks : List CodeMark) (c : Code) (s e : ℕ) (stands : Stands f all marks c s e) (r : Option ℕ) where
  abbrev IsKept : Type 0
  IsKept = Keeps r (lowers f c).after

  by_code : (other : Code) → c ≡ other → Keeps r (lowers f other).after → IsKept
  by_code other is keeps = subst (λ (k : Code). Keeps r (lowers f k).after) (sym is) keeps

  pub of_change : (change : Change) → slice_get all e ≡ Some (ops.Changes change) → Keeps r (changed_by change) → IsKept
  of_change change at keeps = by_code (code.Changes change) (reads f all marks c s e (ops.Changes change) stands at) keeps

  pub of_from : (change : Change) → slice_get all e ≡ Some (ops.From change) → Keeps r (changed_by change) → ((inner : Code) → OneBefore f all marks (Stands f all marks inner) s e → Keeps r (lowers f inner).after) → IsKept
  of_from change at first then =
      let is : IsOne f all marks (code.From change) c s e = reads f all marks c s e (ops.From change) stands at in
      by_code (code.From change is.0) is.1.0 (keeps_both r (changed_by change) (lowers f is.0).after first (then is.0 is.1.1))

  pub of_scope : (node : ℕ) (t : Bool) → slice_get all e ≡ Some (ops.InScope node t) → ((inner : Code) → OneBefore f all marks (Stands f all marks inner) s e → Keeps r (λ S. outer f ((lowers f inner).after (with_scope node t S)))) → IsKept
  of_scope node t at kept =
      let is : IsOne f all marks (code.InScope node t) c s e = reads f all marks c s e (ops.InScope node t) stands at in
      by_code (code.InScope node t is.0) is.1.0 (kept is.0 is.1.1)

  pub of_both : slice_get all e ≡ Some ops.Then → ((one another : Code) → TwoBefore f all marks (Stands f all marks one) (Stands f all marks another) s e → Keeps r (lowers f one).after × Keeps r (lowers f another).after) → IsKept
  of_both at kept =
      let is : IsTwo f all marks code.Then c s e = reads f all marks c s e ops.Then stands at in
      let both = kept is.0 is.1.0 is.1.1.1 in
      by_code (code.Then is.0 is.1.0) is.1.1.0 (keeps_both r (lowers f is.0).after (lowers f is.1.0).after both.0 both.1)

  pub of_either : (node : ℕ) (on : code.Condition) → slice_get all e ≡ Some (ops.Branches node on) → ((one another : Code) → TwoBefore f all marks (Stands f all marks one) (Stands f all marks another) s e → Keeps r (lowers f one).after × Keeps r (lowers f another).after) → IsKept
  of_either node on at kept =
      let is : IsTwo f all marks (code.Branches node on) c s e = reads f all marks c s e (ops.Branches node on) stands at in
      let both = kept is.0 is.1.0 is.1.1.1 in
      by_code (code.Branches node on is.0 is.1.0) is.1.1.0 (keeps_either r (lowers f is.0).has_end (lowers f is.0) (lowers f is.1.0) both.0 both.1)

-- code ends with a word
pub no_word_of : (ws : List words.CodeWord) (i : ℕ) → slice_get ws i ≡ None → slice_get (map op_of ws) i ≡ None
no_word_of ws i is = slice_get-map op_of ws i ∙ ap (option_map op_of) is

pub no_word : (f : LoweringFrame) (all : List CodeWord) (marks : List CodeMark) (c : Code) (s e : ℕ) → Stands f all marks c s e → slice_get all e ≡ None → ⊥
no_word f all marks code.Nothing s e stands none = none-some ops.Nothing (sym none ∙ stands.0.0)
no_word f all marks (code.Changes change) s e stands none = none-some (ops.Changes change) (sym none ∙ stands.0.0)
no_word f all marks (code.From change inner) s e stands none = none-some (ops.From change) (sym none ∙ stands.0.0)
no_word f all marks (code.Then one another) s e stands none = none-some ops.Then (sym none ∙ stands.0.0)
no_word f all marks (code.BackIn inner) s e stands none = none-some ops.BackIn (sym none ∙ stands.0.0)
no_word f all marks (code.Acts node action) s e stands none = none-some (ops.Acts node action) (sym none ∙ stands.0.0)
no_word f all marks (code.InScope node t inner) s e stands none = none-some (ops.InScope node t) (sym none ∙ stands.0.0)
no_word f all marks code.Leaves s e stands none = none-some ops.Leaves (sym none ∙ stands.0.0)
no_word f all marks (code.Branches node on held otherwise) s e stands none = none-some (ops.Branches node on) (sym none ∙ stands.0.0)
no_word f all marks (code.Loops id turn) s e stands none = none-some (ops.Loops id) (sym none ∙ stands.0.0)
no_word f all marks (code.Exits node exit) s e stands none = none-some (ops.Exits node exit) (sym none ∙ stands.0.0)
no_word f all marks (code.Panics node why) s e stands none = none-some (ops.Panics node why) (sym none ∙ stands.0.0)
no_word f all marks (code.Replaces site key) s e stands none = none-some (ops.Replaces site key) (sym none ∙ stands.0.0)
no_word f all marks (code.Drops key) s e stands none = none-some (ops.Drops key) (sym none ∙ stands.0.0)
no_word f all marks (code.Matches node arms) s e stands none = none-some (ops.Matches node) (sym none ∙ stands.0.0)
