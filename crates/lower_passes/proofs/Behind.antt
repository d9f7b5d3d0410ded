-- The scopes behind code, by its last word.
use Rattle.std.proofs.Common.{◌≡◌, ◌∙◌, ◌∷◌, ℕ, zero, suc, Bool, true, false, List, [], Some, map, refl, sym, ap, subst, arith}
use Rattle.std.proofs.lemmas.Option.{none-some, same_Some}
use Rattle.std.specs.Prelude.{slice_get, option_map}
use Rattle.lower_rules.specs.Build.{LoweringFrame, Done, act_by, is_last, done_by, outer, after_either}
use Rattle.lower_rules.specs.Codes.{lowers}
use Rattle.src_meaning.specs.Scopes.{Scopes, with_scope, innermost, without_operands}
use Rattle.store_model.specs.Effects.{EffectSite}
use Rattle.lower_code.specs.Code as code
use Rattle.lower_code.specs.Code.{Code, Change, changed_by}
use Rattle.lower_code.specs.Ops as ops
use Rattle.lower_code.specs.Ops.{CodeWord}
use Rattle.std.specs.Prelude.{Box}
use Rattle.std.specs.declared.alloc.Global.{Global}
use Rattle.cfg_graph.specs.declared.place.Place.{Place}
use Rattle.mir_base.specs.declared.place_in_text.Key.{Key}
use Rattle.mir_base.specs.declared.place_in_text.NodeId.{NodeId}
use Rattle.lower_code.specs.View.{op_of, effect_of, exit_of}
use Rattle.lower_code.specs.declared.code.Change as changing
use Rattle.lower_code.specs.declared.code.Condition.{Condition}
use Rattle.lower_code.specs.declared.code.CodeWord as words
use Rattle.lower_passes.specs.Spans.{OneBefore, TwoBefore, Stands}
use Rattle.lower_passes.specs.declared.spans.TwoCodes.{TwoCodes}
use Rattle.lower_passes.specs.declared.marks.CodeMark.{CodeMark}
use Rattle.lower_passes.proofs.Reading.{reads, IsOne, IsTwo, IsMatch}

-- the number before a number
pub before_is : (e a b : ℕ) → e ≡ suc a → e ≡ suc b → a ≡ b
before_is e a b is are = omega arith

-- where two codes stand, as they are found
pub found_first : (f : LoweringFrame) (all : List CodeWord) (marks : List CodeMark) (one another : Code) (s : ℕ) (two : TwoCodes) → (found : (t : TwoCodes) × ((Some two ≡ Some t) × (Stands f all marks one s t.one × Stands f all marks another (suc t.one) t.another))) → Stands f all marks one s two.one
found_first f all marks one another s two found =
    subst (λ (t : TwoCodes). Stands f all marks one s t.one) (sym (same_Some two found.0 found.1.0)) found.1.1.0

pub found_second : (f : LoweringFrame) (all : List CodeWord) (marks : List CodeMark) (one another : Code) (s : ℕ) (two : TwoCodes) → (found : (t : TwoCodes) × ((Some two ≡ Some t) × (Stands f all marks one s t.one × Stands f all marks another (suc t.one) t.another))) → Stands f all marks another (suc two.one) two.another
found_second f all marks one another s two found =
    subst (λ (t : TwoCodes). Stands f all marks another (suc t.one) t.another) (sym (same_Some two found.0 found.1.0)) found.1.1.1

get_of_map : {X Y : Type 0} (h : X → Y) (xs : List X) (i : ℕ) (x : X) → slice_get xs i ≡ Some x → slice_get (map h xs) i ≡ Some (h x)
get_of_map h [] i x is = absurd (none-some x is)
get_of_map h (y ∷ xs) zero x is = ap (option_map h) is
get_of_map h (y ∷ xs) (suc i) x is = get_of_map h xs i x is

-- the word at a place, as contracts see it
pub word_at : (ws : List words.CodeWord) (i : ℕ) (w v : words.CodeWord) → slice_get ws i ≡ Some w → w ≡ v → slice_get (map op_of ws) i ≡ Some (op_of v)
word_at ws i w v at is = get_of_map op_of ws i w at ∙ ap (λ (o : words.CodeWord). Some (op_of o)) is

module _ (f : LoweringFrame) (all : List CodeWord) (marks : List CodeMark) (c : Code) (s e : ℕ) (stands : Stands f all marks c s e) (S new : Scopes) where
  abbrev IsBehind : Type 0
  IsBehind = new ≡ (lowers f c).after S

  by_code : (other : Code) → c ≡ other → new ≡ (lowers f other).after S → IsBehind
  by_code other is made = made ∙ ap (λ (k : Code). (lowers f k).after S) (sym is)

  pub of_change : (change : Change) → slice_get all e ≡ Some (ops.Changes change) → new ≡ changed_by change S → IsBehind
  of_change change at made = by_code (code.Changes change) (reads f all marks c s e (ops.Changes change) stands at) made

  pub of_leave : slice_get all e ≡ Some ops.Leaves → new ≡ outer f S → IsBehind
  of_leave at made = by_code code.Leaves (reads f all marks c s e ops.Leaves stands at) made

  pub of_replaced : (site : EffectSite) (key : ℕ) → slice_get all e ≡ Some (ops.Replaces site key) → new ≡ innermost (without_operands (key ∷ [])) S → IsBehind
  of_replaced site key at made = by_code (code.Replaces site key) (reads f all marks c s e (ops.Replaces site key) stands at) made

  pub of_from : (change : Change) (middle : Scopes) → slice_get all e ≡ Some (ops.From change) → middle ≡ changed_by change S → ((inner : Code) → OneBefore f all marks (Stands f all marks inner) s e → new ≡ (lowers f inner).after middle) → IsBehind
  of_from change middle at first then_made =
      let is : IsOne f all marks (code.From change) c s e = reads f all marks c s e (ops.From change) stands at in
      by_code (code.From change is.0) is.1.0 (then_made is.0 is.1.1 ∙ ap (λ (M : Scopes). (lowers f is.0).after M) first)

  pub of_scope : (node : ℕ) (for_temporaries : Bool) (middle behind : Scopes) → slice_get all e ≡ Some (ops.InScope node for_temporaries) → middle ≡ with_scope node for_temporaries S → ((inner : Code) → OneBefore f all marks (Stands f all marks inner) s e → behind ≡ (lowers f inner).after middle) → new ≡ outer f behind → IsBehind
  of_scope node for_temporaries middle behind at first then_made last =
      let is : IsOne f all marks (code.InScope node for_temporaries) c s e = reads f all marks c s e (ops.InScope node for_temporaries) stands at in
      by_code (code.InScope node for_temporaries is.0) is.1.0
      (last ∙ ap (outer f) (then_made is.0 is.1.1 ∙ ap (λ (M : Scopes). (lowers f is.0).after M) first))

  pub of_both : slice_get all e ≡ Some ops.Then → ((one another : Code) → TwoBefore f all marks (Stands f all marks one) (Stands f all marks another) s e → new ≡ (lowers f another).after ((lowers f one).after S)) → IsBehind
  of_both at made =
      let is : IsTwo f all marks code.Then c s e = reads f all marks c s e ops.Then stands at in
      by_code (code.Then is.0 is.1.0) is.1.1.0 (made is.0 is.1.0 is.1.1.1)

  pub of_either : (node : ℕ) (on : code.Condition) → slice_get all e ≡ Some (ops.Branches node on) → ((one another : Code) → TwoBefore f all marks (Stands f all marks one) (Stands f all marks another) s e → new ≡ after_either (lowers f one).has_end (lowers f one) (lowers f another) S) → IsBehind
  of_either node on at made =
      let is : IsTwo f all marks (code.Branches node on) c s e = reads f all marks c s e (ops.Branches node on) stands at in
      by_code (code.Branches node on is.0 is.1.0) is.1.1.0 (made is.0 is.1.0 is.1.1.1)

acts_stay : (f : LoweringFrame) (last : Bool) (node : ℕ) (by : Done) (S : Scopes) → S ≡ (act_by f last node by).after S
acts_stay f true node by S = refl
acts_stay f false node by S = refl

-- words of code that changes no scope
module _ (f : LoweringFrame) (all : List CodeWord) (marks : List CodeMark) (c : Code) (s e : ℕ) (stands : Stands f all marks c s e) (S : Scopes) where
  abbrev stay : (other : Code) → c ≡ other → S ≡ (lowers f other).after S → S ≡ (lowers f c).after S
  stay other is same = by_code f all marks c s e stands S S other is same

  pub stays : (w : words.CodeWord) → slice_get all e ≡ Some (op_of w) → ((by : changing.Change) → w ≡ words.CodeWord.Changes by → ⊥) → ((by : changing.Change) → w ≡ words.CodeWord.From by → ⊥) → (w ≡ words.CodeWord.Then → ⊥) → ((node : NodeId) (t : Bool) → w ≡ words.CodeWord.InScope node t → ⊥) → (w ≡ words.CodeWord.Leaves → ⊥) → ((node : NodeId) (on : Condition) → w ≡ words.CodeWord.Branches node on → ⊥) → ((node : NodeId) (place : Box Place Global) (key : Key) → w ≡ words.CodeWord.Replaces node place key → ⊥) → S ≡ (lowers f c).after S
  stays words.CodeWord.Nothing at a b d g h i j = stay code.Nothing (reads f all marks c s e ops.Nothing stands at) refl
  stays (words.CodeWord.Changes by) at a b d g h i j = absurd (a by refl)
  stays (words.CodeWord.From by) at a b d g h i j = absurd (b by refl)
  stays words.CodeWord.Then at a b d g h i j = absurd (d refl)
  stays words.CodeWord.BackIn at a b d g h i j =
      let is : IsOne f all marks code.BackIn c s e = reads f all marks c s e ops.BackIn stands at in
      stay (code.BackIn is.0) is.1.0 refl
  stays (words.CodeWord.Acts node action) at a b d g h i j =
      let own : CodeWord = op_of (words.CodeWord.Acts node action) in
      stay (code.Acts node.0 (effect_of node.0 action.value)) (reads f all marks c s e own stands at)
      (acts_stay f (is_last f (effect_of node.0 action.value)) node.0 (done_by f (effect_of node.0 action.value)) S)
  stays (words.CodeWord.InScope node t) at a b d g h i j = absurd (g node t refl)
  stays words.CodeWord.Leaves at a b d g h i j = absurd (h refl)
  stays (words.CodeWord.Branches node on) at a b d g h i j = absurd (i node on refl)
  stays (words.CodeWord.Loops id) at a b d g h i j =
      let is : IsOne f all marks (code.Loops id.0) c s e = reads f all marks c s e (ops.Loops id.0) stands at in
      stay (code.Loops id.0 is.0) is.1.0 refl
  stays (words.CodeWord.Exits node exit) at a b d g h i j = stay (code.Exits node.0 (exit_of exit)) (reads f all marks c s e (ops.Exits node.0 (exit_of exit)) stands at) refl
  stays (words.CodeWord.Panics node why) at a b d g h i j = stay (code.Panics node.0 why) (reads f all marks c s e (ops.Panics node.0 why) stands at) refl
  stays (words.CodeWord.Replaces node place key) at a b d g h i j = absurd (j node place key refl)
  stays (words.CodeWord.Drops key) at a b d g h i j = stay (code.Drops key.0) (reads f all marks c s e (ops.Drops key.0) stands at) refl
  stays words.CodeWord.BeforeArms at a b d g h i j = absurd (reads f all marks c s e ops.BeforeArms stands at)
  stays (words.CodeWord.Arm tests guard) at a b d g h i j = absurd (reads f all marks c s e (op_of (words.CodeWord.Arm tests guard)) stands at)
  stays words.CodeWord.EmptyArm at a b d g h i j = absurd (reads f all marks c s e ops.EmptyArm stands at)
  stays (words.CodeWord.Matches node) at a b d g h i j =
      let is : IsMatch f all marks node.0 c s e = reads f all marks c s e (ops.Matches node.0) stands at in
      stay (code.Matches node.0 is.0) is.1.0 refl
