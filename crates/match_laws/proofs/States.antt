-- States that are the same: what is clear stays clear, what stands at a place stands there still, and answers follow one
-- another.
use Rattle.std.proofs.Common.{◌≡◌, ℕ, Bool, true, false, ◌&&◌, ◌||◌, List, [], ◌∷◌, ◌++◌, Option, Some, refl, ap, sym, ◌∙◌, subst}
use Rattle.mir_ty.specs.declared.ty.TyId.{TyId}
use Rattle.mir_ty.specs.ItemTable.{ItemTable}
use Rattle.store_model.specs.Values.Datum.{Gone}
use Rattle.store_model.specs.Effects.{Choice, Yes, No, Neither, Effects}
use Rattle.store_model.specs.Places.Place.{Place}
use Rattle.store_model.specs.Concrete.Location.{Setting, Located}
use Rattle.store_model.specs.Concrete.State.{State, Activation, Cells, cell}
use Rattle.src_meaning.specs.Forms.{holds, all_hold, tests_after, alternatives_after}
use Rattle.src_meaning.specs.Locals.Effects.{place_at}
use Rattle.src_meaning.specs.Scopes.{Entry}
use Rattle.src_meaning.specs.Shape.{followed_by, PatternTests, no_test, a_test}
use Rattle.soundness_values.specs.Frames.{SameCells, Alike, none_runs, one_runs}
use Rattle.soundness_values.proofs.Standings.{alike_itself, alike_after}
use Rattle.match_laws.proofs.Reach.{reach_alike}
use Rattle.match_laws.specs.Matches.{Same, Answers, AreClear, IsReady, Stands}

pub same_itself : (w : State) → Same w w
same_itself w = record { activations = w.activations; is = refl; alike = alike_itself w.activations }

pub same_acts : (w v : State) (k : Same w v) → v.activations ≡ k.activations
same_acts w v k = ap (λ (x : State). x.activations) k.is

pub acts_alike : (w v : State) → Same w v → Alike w.activations v.activations
acts_alike w v k = subst (Alike w.activations) (sym (same_acts w v k)) k.alike

pub same_after : (w v u : State) → Same w v → Same v u → Same w u
same_after w v u k l = record {
  activations = l.activations;
  is = l.is ∙ ap (λ (x : State). record x { activations = l.activations }) k.is;
  alike = alike_after (acts_alike w v k) l.activations l.alike;
}

-- an answer from the same state
pub answers_from : (w v : State) → Same w v → (b : Bool) (choice : Choice State) → Answers v b choice →
    Answers w b choice
answers_from w v k true (Yes u) a = same_after w v u k a
answers_from w v k false (No u) a = same_after w v u k a
answers_from w v k true (No u) a = absurd a
answers_from w v k true (Neither halt u) a = absurd a
answers_from w v k false (Yes u) a = absurd a
answers_from w v k false (Neither halt u) a = absurd a

-- ---- what is the same in states that are

record Youngest (runs : Activation) (acts : List Activation) : Type 0 where
  other : Activation
  older : List Activation
  is : acts ≡ other ∷ older
  body : other.body ≡ runs.body
  held : SameCells runs.cells other.cells

youngest_same : {x y : List Activation} → Alike x y → (runs : Activation) (older : List Activation) →
    x ≡ runs ∷ older → Youngest runs y
youngest_same none_runs runs older e = absurd (let never : ⊥ = cc in never)
youngest_same (one_runs body a b older older' h k) runs rest e =
    let same : record { body = body; cells = a } ≡ runs = cc in
    record {
      other = record { body = body; cells = b };
      older = older';
      is = refl;
      body = ap (λ (x : Activation). x.body) same;
      held = λ key. ap (λ (x : Activation). cell key x.cells) (sym same) ∙ h key;
    }

module _ (setting : Setting) (local_of : ℕ → ℕ) where
  still_clear : (body other : ℕ) (a b : Cells) → other ≡ body → SameCells a b → (entries : List Entry) →
      AreClear setting local_of body a entries → AreClear setting local_of other b entries
  still_clear body other a b e h [] c = tt
  still_clear body other a b e h (x ∷ entries) c = (
    ap (λ n. setting.local_ty n (local_of x.key)) e ∙ c.0,
    sym (h (local_of x.key)) ∙ c.1,
    still_clear body other a b e h entries c.2,
  )

  pub still_ready : (w v : State) (entries : List Entry) → Same w v → IsReady setting local_of w entries →
      IsReady setting local_of v entries
  still_ready w v entries k r =
      let y = youngest_same (acts_alike w v k) r.runs r.older r.youngest in
      record {
        runs = y.other;
        older = y.older;
        youngest = y.is;
        clear = still_clear r.runs.body y.other.body r.runs.cells y.other.cells y.body y.held entries r.clear;
      }

  pub still_stands : (w v : State) (place : Place) (ty : TyId) (s : Located) → Same w v →
      Stands setting local_of w place ty s → Stands setting local_of v place ty s
  still_stands w v place ty s k t = record {
    reached = sym (reach_alike setting w v (acts_alike w v k) (place_at local_of place)) ∙ t.reached;
    of_type = t.of_type;
    found = t.found;
    whole = t.whole;
  }

  clear_left : (body : ℕ) (held : Cells) (a b : List Entry) → AreClear setting local_of body held (a ++ b) →
      AreClear setting local_of body held a
  clear_left body held [] b c = tt
  clear_left body held (e ∷ a) b c = (c.0, c.1, clear_left body held a b c.2)

  clear_right : (body : ℕ) (held : Cells) (a b : List Entry) → AreClear setting local_of body held (a ++ b) →
      AreClear setting local_of body held b
  clear_right body held [] b c = c
  clear_right body held (e ∷ a) b c = clear_right body held a b c.2

  pub ready_left : (w : State) (a b : List Entry) → IsReady setting local_of w (a ++ b) → IsReady setting local_of w a
  ready_left w a b r = record {
    runs = r.runs;
    older = r.older;
    youngest = r.youngest;
    clear = clear_left r.runs.body r.runs.cells a b r.clear;
  }

  pub ready_right : (w : State) (a b : List Entry) → IsReady setting local_of w (a ++ b) →
      IsReady setting local_of w b
  ready_right w a b r = record {
    runs = r.runs;
    older = r.older;
    youngest = r.youngest;
    clear = clear_right r.runs.body r.runs.cells a b r.clear;
  }

-- ---- tests one after the other

module _ (items : ItemTable) (p : Effects State) where
  pub after_tests : (w : State) (one other : Bool) (choice : Choice State) (rest : State → Choice State) →
      Answers w one choice → (one ≡ true → (v : State) → Same w v → Answers v other (rest v)) →
      Answers w (one && other) (tests_after items p choice rest)
  after_tests w true other (Yes v) rest a e = answers_from w v a other (rest v) (e refl v a)
  after_tests w true other (No v) rest a e = absurd a
  after_tests w true other (Neither halt v) rest a e = absurd a
  after_tests w false other (No v) rest a e = a
  after_tests w false other (Yes v) rest a e = absurd a
  after_tests w false other (Neither halt v) rest a e = absurd a

  pub after_alternatives : (w : State) (one other : Bool) (choice : Choice State) (rest : State → Choice State) →
      Answers w one choice → ((v : State) → Same w v → Answers v other (rest v)) →
      Answers w (one || other) (alternatives_after items p choice rest)
  after_alternatives w true other (Yes v) rest a e = a
  after_alternatives w true other (No v) rest a e = absurd a
  after_alternatives w true other (Neither halt v) rest a e = absurd a
  after_alternatives w false other (No v) rest a e = answers_from w v a other (rest v) (e v a)
  after_alternatives w false other (Yes v) rest a e = absurd a
  after_alternatives w false other (Neither halt v) rest a e = absurd a

  -- one test alone
  pub last_test : (w : State) (b : Bool) (choice : Choice State) → Answers w b choice →
      Answers w b (tests_after items p choice (all_hold items p no_test))
  last_test w true (Yes v) a = a
  last_test w true (No v) a = absurd a
  last_test w true (Neither halt v) a = absurd a
  last_test w false (No v) a = a
  last_test w false (Yes v) a = absurd a
  last_test w false (Neither halt v) a = absurd a

  pub followed : (a b : PatternTests) (w : State) →
      all_hold items p (followed_by a b) w ≡ tests_after items p (all_hold items p a w) (all_hold items p b)
  followed no_test b w = refl
  followed (a_test first rest) b w = by (followed rest b) (holds items p first w)
    where
      by : ((v : State) → all_hold items p (followed_by rest b) v
          ≡ tests_after items p (all_hold items p rest v) (all_hold items p b)) → (choice : Choice State) → tests_after items p choice (all_hold items p (followed_by rest b))
          ≡ tests_after items p (tests_after items p choice (all_hold items p rest)) (all_hold items p b)
      by later (Yes v) = later v
      by later (No v) = refl
      by later (Neither halt v) = refl
