-- Code by its last word, and what is built of it; arms one after the other.
use Rattle.std.proofs.Common.{◌≡◌, ◌∙◌, ◌≤◌, ◌++◌, ◌∷◌, ◌⊎◌, ℕ, suc, Bool, true, false, List, Option, Some, None, map, refl, sym, ap, subst, arith, inl, inr}
use Rattle.std.proofs.lemmas.Option.{none-some, same_Some, slice_get-map}
use Rattle.std.specs.Prelude.{slice_get, option_map}
use Rattle.lower_rules.specs.Build.{LoweringFrame, BlockRest, Building}
use Rattle.lower_rules.specs.Codes.{lowers, lowers_arm, lowers_arms}
use Rattle.lower_rules.specs.Lower.{LowersArm}
use Rattle.lower_rules.specs.Spots.{Ways}
use Rattle.pattern_lower.specs.declared.found.Test.{Test}
use Rattle.src_meaning.specs.Scopes.{Scopes}
use Rattle.src_meaning.specs.Shape.{PatternTests}
use Rattle.mir_base.specs.declared.place_in_text.Key.{Key}
use Rattle.mir_base.specs.declared.place_in_text.NodeId.{NodeId}
use Rattle.lower_code.specs.Code as code
use Rattle.lower_code.specs.Code.{Code, Arms, no_arm, an_arm, Arm, Taken, Empty, Guard, no_guard, a_guard}
use Rattle.lower_code.specs.Ops as ops
use Rattle.lower_code.specs.Ops.{CodeWord}
use Rattle.lower_code.specs.View.{op_of, effect_of, exit_of, change_of, maybe_key}
use Rattle.lower_code.specs.declared.code.Change as changing
use Rattle.lower_code.specs.declared.code.Condition as asking
use Rattle.lower_code.specs.declared.code.CodeWord as words
use Rattle.cfg_graph.specs.Places.{named}
use Rattle.lower_passes.specs.Spans.{OneBefore, TwoBefore, Stands, StandArms, StandsArm}
use Rattle.lower_passes.specs.declared.marks.CodeMark.{CodeMark}
use Rattle.lower_passes.proofs.Reading.{reads, IsOne, IsTwo, IsMatch, arm_within}
use Rattle.lower_blocks.specs.Builds.{leaf_of, arms_then, ends_arm, ArmsStand, IsLast, TakenStands}

module _ (f : LoweringFrame) (all : List CodeWord) (marks : List CodeMark) (c : Code) (s e : ℕ) (stands : Stands f all marks c s e) where
  leaf_by : (word : CodeWord) (other : Code) → c ≡ other → leaf_of word ≡ Some other → leaf_of word ≡ Some c
  leaf_by word other is leaf = leaf ∙ ap (λ (d : Code). Some d) (sym is)

  -- code whose last word is no word of code with parts
  pub leaf : (w : words.CodeWord) → slice_get all e ≡ Some (op_of w) → ((by : changing.Change) → w ≡ words.CodeWord.From by → ⊥) → (w ≡ words.CodeWord.Then → ⊥) → (w ≡ words.CodeWord.BackIn → ⊥) → ((node : NodeId) (t : Bool) → w ≡ words.CodeWord.InScope node t → ⊥) → ((node : NodeId) (on : asking.Condition) → w ≡ words.CodeWord.Branches node on → ⊥) → ((id : NodeId) → w ≡ words.CodeWord.Loops id → ⊥) → ((node : NodeId) → w ≡ words.CodeWord.Matches node → ⊥) → leaf_of (op_of w) ≡ Some c
  leaf words.CodeWord.Nothing at a b d g h i j = leaf_by ops.Nothing code.Nothing (reads f all marks c s e ops.Nothing stands at) refl
  leaf (words.CodeWord.Changes by) at a b d g h i j = leaf_by (ops.Changes (change_of by)) (code.Changes (change_of by)) (reads f all marks c s e (ops.Changes (change_of by)) stands at) refl
  leaf (words.CodeWord.From by) at a b d g h i j = absurd (a by refl)
  leaf words.CodeWord.Then at a b d g h i j = absurd (b refl)
  leaf words.CodeWord.BackIn at a b d g h i j = absurd (d refl)
  leaf (words.CodeWord.Acts node action) at a b d g h i j =
      leaf_by (ops.Acts node.0 (effect_of node.0 action.value)) (code.Acts node.0 (effect_of node.0 action.value)) (reads f all marks c s e (ops.Acts node.0 (effect_of node.0 action.value)) stands at) refl
  leaf (words.CodeWord.InScope node t) at a b d g h i j = absurd (g node t refl)
  leaf words.CodeWord.Leaves at a b d g h i j = leaf_by ops.Leaves code.Leaves (reads f all marks c s e ops.Leaves stands at) refl
  leaf (words.CodeWord.Branches node on) at a b d g h i j = absurd (h node on refl)
  leaf (words.CodeWord.Loops id) at a b d g h i j = absurd (i id refl)
  leaf (words.CodeWord.Exits node exit) at a b d g h i j =
      leaf_by (ops.Exits node.0 (exit_of exit)) (code.Exits node.0 (exit_of exit)) (reads f all marks c s e (ops.Exits node.0 (exit_of exit)) stands at) refl
  leaf (words.CodeWord.Panics node why) at a b d g h i j = leaf_by (ops.Panics node.0 why) (code.Panics node.0 why) (reads f all marks c s e (ops.Panics node.0 why) stands at) refl
  leaf (words.CodeWord.Replaces node place key) at a b d g h i j =
      leaf_by (op_of (words.CodeWord.Replaces node place key)) (code.Replaces (record { node = node.0; place = named place.value }) key.0) (reads f all marks c s e (op_of (words.CodeWord.Replaces node place key)) stands at) refl
  leaf (words.CodeWord.Drops key) at a b d g h i j = leaf_by (ops.Drops key.0) (code.Drops key.0) (reads f all marks c s e (ops.Drops key.0) stands at) refl
  leaf words.CodeWord.BeforeArms at a b d g h i j = absurd (reads f all marks c s e ops.BeforeArms stands at)
  leaf (words.CodeWord.Arm tests guard) at a b d g h i j =
      absurd (reads f all marks c s e (op_of (words.CodeWord.Arm tests guard)) stands at)
  leaf words.CodeWord.EmptyArm at a b d g h i j = absurd (reads f all marks c s e ops.EmptyArm stands at)
  leaf (words.CodeWord.Matches node) at a b d g h i j = absurd (j node refl)

  module _ (W : Ways) (S : Scopes) (k : BlockRest) (b : Building) (new : BlockRest × Building) where
    abbrev IsOf : Code → Type 0
    IsOf other = new ≡ (lowers f other).build W S k b

    by_code : (other : Code) → c ≡ other → IsOf other → IsOf c
    by_code other is made = made ∙ ap (λ (d : Code). (lowers f d).build W S k b) (sym is)

    pub of_from : (change : code.Change) → slice_get all e ≡ Some (ops.From change) → ((inner : Code) → OneBefore f all marks (Stands f all marks inner) s e → IsOf (code.From change inner)) → IsOf c
    of_from change at made =
        let is : IsOne f all marks (code.From change) c s e = reads f all marks c s e (ops.From change) stands at in
        by_code (code.From change is.0) is.1.0 (made is.0 is.1.1)

    pub of_back : slice_get all e ≡ Some ops.BackIn → ((inner : Code) → OneBefore f all marks (Stands f all marks inner) s e → IsOf inner) → IsOf c
    of_back at made =
        let is : IsOne f all marks code.BackIn c s e = reads f all marks c s e ops.BackIn stands at in
        by_code (code.BackIn is.0) is.1.0 (made is.0 is.1.1)

    pub of_scope : (node : ℕ) (t : Bool) → slice_get all e ≡ Some (ops.InScope node t) → ((inner : Code) → OneBefore f all marks (Stands f all marks inner) s e → IsOf (code.InScope node t inner)) → IsOf c
    of_scope node t at made =
        let is : IsOne f all marks (code.InScope node t) c s e = reads f all marks c s e (ops.InScope node t) stands at in
        by_code (code.InScope node t is.0) is.1.0 (made is.0 is.1.1)

    pub of_both : slice_get all e ≡ Some ops.Then → ((one another : Code) → TwoBefore f all marks (Stands f all marks one) (Stands f all marks another) s e → IsOf (code.Then one another)) → IsOf c
    of_both at made =
        let is : IsTwo f all marks code.Then c s e = reads f all marks c s e ops.Then stands at in
        by_code (code.Then is.0 is.1.0) is.1.1.0 (made is.0 is.1.0 is.1.1.1)

    pub of_branches : (node : ℕ) (on : code.Condition) → slice_get all e ≡ Some (ops.Branches node on) → ((one another : Code) → TwoBefore f all marks (Stands f all marks one) (Stands f all marks another) s e → IsOf (code.Branches node on one another)) → IsOf c
    of_branches node on at made =
        let is : IsTwo f all marks (code.Branches node on) c s e = reads f all marks c s e (ops.Branches node on) stands at in
        by_code (code.Branches node on is.0 is.1.0) is.1.1.0 (made is.0 is.1.0 is.1.1.1)

    pub of_loop : (id : ℕ) → slice_get all e ≡ Some (ops.Loops id) → ((turn : Code) → Stands f all marks (code.Loops id turn) s e → IsOf (code.Loops id turn)) → IsOf c
    of_loop id at made =
        let is : IsOne f all marks (code.Loops id) c s e = reads f all marks c s e (ops.Loops id) stands at in
        by_code (code.Loops id is.0) is.1.0 (made is.0 (subst (λ (d : Code). Stands f all marks d s e) is.1.0 stands))

    pub of_match : (node : ℕ) → slice_get all e ≡ Some (ops.Matches node) → ((arms : Arms) → Stands f all marks (code.Matches node arms) s e → IsOf (code.Matches node arms)) → IsOf c
    of_match node at made =
        let is : IsMatch f all marks node c s e = reads f all marks c s e (ops.Matches node) stands at in
        by_code (code.Matches node is.0) is.1.0 (made is.0 (subst (λ (d : Code). Stands f all marks d s e) is.1.0 stands))

-- Arms.

pub arms_behind : (f : LoweringFrame) (rest : Arms) (last : Arm) (others : List LowersArm) → lowers_arms f (arms_then rest last) ++ others ≡ lowers_arms f rest ++ (lowers_arm f last ∷ others)
arms_behind f no_arm last others = refl
arms_behind f (an_arm first rest) last others = ap (λ (all : List LowersArm). lowers_arm f first ∷ all) (arms_behind f rest last others)

module _ (f : LoweringFrame) (all : List CodeWord) (marks : List CodeMark) where
  abbrev HasLast : Arms → (s e : ℕ) → Type 0
  HasLast arms s e =
      (rest : Arms) × ((last : Arm) × ((m : ℕ) × ((d : ℕ) × ((arms ≡ arms_then rest last) × ((e ≡ suc d)
      × (StandArms f all marks rest s m × StandsArm f all marks last m d))))))

  behind_first : (first : Arm) (rest : Arms) (s m e : ℕ) → StandsArm f all marks first s m → ((rest ≡ no_arm) × (suc m ≡ e)) ⊎ HasLast rest (suc m) e → HasLast (an_arm first rest) s e
  behind_first first rest s m e stands (inl none) =
      (no_arm, (first, (s, (m, (ap (an_arm first) none.0, (sym none.1, (refl, stands)))))))
  behind_first first rest s m e stands (inr is) =
      (an_arm first is.0, (is.1.0, (is.1.1.0, (is.1.1.1.0, (ap (an_arm first) is.1.1.1.1.0, (is.1.1.1.1.1.0, ((m, (stands, is.1.1.1.1.1.1.0)), is.1.1.1.1.1.1.1)))))))

  pub last_arm : (arms : Arms) (s e : ℕ) → StandArms f all marks arms s e → ((arms ≡ no_arm) × (s ≡ e)) ⊎ HasLast arms s e
  last_arm no_arm s e is = inl (refl, is)
  last_arm (an_arm first rest) s e is =
      inr (behind_first first rest s is.0 e is.1.0 (last_arm rest (suc is.0) e is.1.1))

  -- the word of an arm
  pub arm_word : (one : Arm) (s e : ℕ) → StandsArm f all marks one s e → (word : CodeWord) × ((slice_get all e ≡ Some word) × ((ends_arm word ≡ true) × ((m : CodeMark) × ((slice_get marks e ≡ Some m) × (m.start ≡ s)))))
  arm_word (Taken tests no_guard inner) s e is = (ops.IsArm tests None, (is.0.0, (refl, is.0.1)))
  arm_word (Taken tests (a_guard key guard) inner) s e is = (ops.IsArm tests (Some key), (is.0.0, (refl, is.0.1)))
  arm_word Empty s e is = (ops.EmptyArm, (is.0.0, (refl, is.0.1)))

  none_of : (arms : Arms) (begin e d : ℕ) → e ≡ suc d → ((word : CodeWord) → slice_get all d ≡ Some word → ends_arm word ≡ true → ⊥) → ((arms ≡ no_arm) × (suc begin ≡ e)) ⊎ HasLast arms (suc begin) e → arms ≡ no_arm
  none_of arms begin e d ends other (inl is) = is.0
  none_of arms begin e d ends other (inr is) =
      let same : is.1.1.1.0 ≡ d = (let up : e ≡ suc is.1.1.1.0 = is.1.1.1.1.1.0 in omega arith) in
      let word = arm_word is.1.0 is.1.1.0 is.1.1.1.0 is.1.1.1.1.1.1.1 in
      absurd (other word.0 (ap (λ (i : ℕ). slice_get all i) (sym same) ∙ word.1.0) word.1.1.0)

  -- no arm ends where another word stands
  pub none_last : (arms : Arms) (begin e d : ℕ) → e ≡ suc d → ArmsStand f all marks arms begin e → ((word : CodeWord) → slice_get all d ≡ Some word → ends_arm word ≡ true → ⊥) → IsLast f all marks arms begin None
  none_last arms begin e d ends is other = none_of arms begin e d ends other (last_arm arms (suc begin) e is.1)

  last_of : (arms : Arms) (begin e d start : ℕ) (word : CodeWord) → e ≡ suc d → slice_get all begin ≡ Some ops.BeforeArms → slice_get all d ≡ Some word → ends_arm word ≡ true → ((mark : CodeMark) → slice_get marks d ≡ Some mark → mark.start ≤ d → start ≡ mark.start) → ((arms ≡ no_arm) × (suc begin ≡ e)) ⊎ HasLast arms (suc begin) e → IsLast f all marks arms begin (Some (record { start = start; end = d }))
  last_of arms begin e d start word ends first at arm marked (inl is) =
      let same : d ≡ begin = (let up : suc begin ≡ e = is.1 in omega arith) in
      let other : ops.BeforeArms ≡ word = same_Some ops.BeforeArms word (sym first ∙ ap (λ (i : ℕ). slice_get all i) (sym same) ∙ at) in
      let both : false ≡ true = ap ends_arm other ∙ arm in
      absurd (let apart : false ≡ true = both in cc)
  last_of arms begin e d start word ends first at arm marked (inr is) =
      let same : is.1.1.1.0 ≡ d = (let up : e ≡ suc is.1.1.1.0 = is.1.1.1.1.1.0 in omega arith) in
      let last : StandsArm f all marks is.1.0 is.1.1.0 d = subst (λ (i : ℕ). StandsArm f all marks is.1.0 is.1.1.0 i) same is.1.1.1.1.1.1.1 in
      let found = (arm_word is.1.0 is.1.1.0 d last).1.1.1 in
      let begins : found.0.start ≡ is.1.1.0 = found.1.1 in
      let within : is.1.1.0 ≤ d = arm_within f all marks is.1.0 is.1.1.0 d last in
      let below : found.0.start ≤ d = omega arith in
      let start_is : is.1.1.0 ≡ start = sym (marked found.0 found.1.0 below ∙ begins) in
      (is.0, (is.1.0, (is.1.1.1.1.0, (subst (λ (m : ℕ). StandArms f all marks is.0 (suc begin) m) start_is is.1.1.1.1.1.1.0, subst (λ (m : ℕ). StandsArm f all marks is.1.0 m d) start_is last))))

  -- an arm ends where its word stands, and begins where its mark says
  pub is_last : (arms : Arms) (begin e d start : ℕ) (word : CodeWord) → e ≡ suc d → ArmsStand f all marks arms begin e → slice_get all d ≡ Some word → ends_arm word ≡ true → ((mark : CodeMark) → slice_get marks d ≡ Some mark → mark.start ≤ d → start ≡ mark.start) → IsLast f all marks arms begin (Some (record { start = start; end = d }))
  is_last arms begin e d start word ends is at arm marked = last_of arms begin e d start word ends is.0 at arm marked (last_arm arms (suc begin) e is.1)

  -- what an arm is, by its word
  same_arm : (t u : PatternTests) (g h : Option ℕ) (w : CodeWord) → w ≡ ops.IsArm t g → w ≡ ops.IsArm u h → (t ≡ u) × (g ≡ h)
  same_arm t u g h w is are = (cc, cc)

  pub reads_arm : (one : Arm) (tests : PatternTests) (key : Option Key) (s e : ℕ) → StandsArm f all marks one s e → slice_get all e ≡ Some (ops.IsArm tests (maybe_key key)) → (asked : Guard) × ((inner : Code) × ((one ≡ Taken tests asked inner) × TakenStands f all marks key asked inner s e))
  reads_arm (Taken t no_guard inner) tests None s e is at =
      let same = same_arm t tests None None (ops.IsArm t None) refl (same_Some (ops.IsArm t None) (ops.IsArm tests None) (sym is.0.0 ∙ at)) in
      (no_guard, (inner, (ap (λ (u : PatternTests). Taken u no_guard inner) same.0, is.1)))
  reads_arm (Taken t no_guard inner) tests (Some key) s e is at =
      let same = same_arm t tests None (Some key.0) (ops.IsArm t None) refl (same_Some (ops.IsArm t None) (ops.IsArm tests (Some key.0)) (sym is.0.0 ∙ at)) in
      absurd (none-some key.0 same.1)
  reads_arm (Taken t (a_guard number guard) inner) tests None s e is at =
      let same = same_arm t tests (Some number) None (ops.IsArm t (Some number)) refl (same_Some (ops.IsArm t (Some number)) (ops.IsArm tests None) (sym is.0.0 ∙ at)) in
      absurd (none-some number (sym same.1))
  reads_arm (Taken t (a_guard number guard) inner) tests (Some key) s e is at =
      let same = same_arm t tests (Some number) (Some key.0) (ops.IsArm t (Some number)) refl (same_Some (ops.IsArm t (Some number)) (ops.IsArm tests (Some key.0)) (sym is.0.0 ∙ at)) in
      (a_guard number guard, (inner, (ap (λ (u : PatternTests). Taken u (a_guard number guard) inner) same.0, (same_Some number key.0 same.1, is.1))))
  reads_arm Empty tests key s e is at =
      let same : ops.EmptyArm ≡ ops.IsArm tests (maybe_key key) = same_Some ops.EmptyArm (ops.IsArm tests (maybe_key key)) (sym is.0.0 ∙ at) in
      absurd (let apart : ops.EmptyArm ≡ ops.IsArm tests (maybe_key key) = same in cc)

  -- what an arm is, by whether it has a guard
  pub taken_alone : (key : Option Key) (asked : Guard) (inner : Code) (s e : ℕ) → key ≡ None → TakenStands f all marks key asked inner s e → (asked ≡ no_guard) × OneBefore f all marks (Stands f all marks inner) s e
  taken_alone None no_guard inner s e is stands = (refl, stands)
  taken_alone None (a_guard number guard) inner s e is stands = absurd stands
  taken_alone (Some key) asked inner s e is stands = absurd (none-some key (sym is))

  pub taken_guarded : (key : Option Key) (own : Key) (asked : Guard) (inner : Code) (s e : ℕ) → key ≡ Some own → TakenStands f all marks key asked inner s e → (guard : Code) × ((asked ≡ a_guard own.0 guard) × TwoBefore f all marks (Stands f all marks guard) (Stands f all marks inner) s e)
  taken_guarded None own asked inner s e is stands = absurd (none-some own is)
  taken_guarded (Some key) own no_guard inner s e is stands = absurd stands
  taken_guarded (Some key) own (a_guard number guard) inner s e is stands =
      (guard, (ap (λ (n : ℕ). a_guard n guard) (stands.0 ∙ ap (λ (k : Key). k.0) (same_Some key own is)), stands.1))

-- words as contracts see them
pub past_none : (ws : List words.CodeWord) (i : ℕ) → slice_get ws i ≡ None → slice_get (map op_of ws) i ≡ None
past_none ws i is = slice_get-map op_of ws i ∙ ap (option_map op_of) is

pub word_here : (ws : List words.CodeWord) (i : ℕ) (w : words.CodeWord) → slice_get ws i ≡ Some w → slice_get (map op_of ws) i ≡ Some (op_of w)
word_here ws i w is = slice_get-map op_of ws i ∙ ap (option_map op_of) is

pub never_arm : (ws : List words.CodeWord) (i : ℕ) (w : words.CodeWord) → slice_get ws i ≡ Some w → ends_arm (op_of w) ≡ false → (word : CodeWord) → slice_get (map op_of ws) i ≡ Some word → ends_arm word ≡ true → ⊥
never_arm ws i w is none word at arm =
    let same : op_of w ≡ word = same_Some (op_of w) word (sym (word_here ws i w is) ∙ at) in
    let both : false ≡ true = sym none ∙ ap ends_arm same ∙ arm in
    let apart : false ≡ true = both in cc

never_taken : (all : PatternTests) (key : Option ℕ) (w : words.CodeWord) → ops.IsArm all key ≡ op_of w → ((tests : List Test) (guard : Option Key) → w ≡ words.CodeWord.Arm tests guard → ⊥) → ⊥
never_taken all number (words.CodeWord.Arm tests guard) is other = other tests guard refl
never_taken all number others is other = let apart : ops.IsArm all number ≡ op_of others = is in cc

-- an arm that ends with another word than that of an arm that is taken
pub empty_is : (f : LoweringFrame) (ws : List words.CodeWord) (marks : List CodeMark) (one : Arm) (s e : ℕ) (w : words.CodeWord) → StandsArm f (map op_of ws) marks one s e → slice_get ws e ≡ Some w → ((tests : List Test) (guard : Option Key) → w ≡ words.CodeWord.Arm tests guard → ⊥) → one ≡ Empty
empty_is f ws marks Empty s e w is at other = refl
empty_is f ws marks (Taken tests no_guard inner) s e w is at other =
    absurd (never_taken tests None w (same_Some (ops.IsArm tests None) (op_of w) (sym is.0.0 ∙ word_here ws e w at)) other)
empty_is f ws marks (Taken tests (a_guard key guard) inner) s e w is at other =
    absurd (never_taken tests (Some key) w (same_Some (ops.IsArm tests (Some key)) (op_of w) (sym is.0.0 ∙ word_here ws e w at)) other)
