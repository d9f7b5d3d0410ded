-- The fuel by which runs of a source are defined never ends it: agreement up to a size, of a run of a body with itself.
use Rattle.std.proofs.Common.{◌≡◌, ℕ, ◌≤◌, Option, Some, None, slice_get, refl, arith}
use Rattle.std.specs.Option.{option_map_or}
use Rattle.mir_ty.specs.ItemTable.{ItemTable}
use Rattle.store_model.proofs.Effects.Agreement.{agreement, same_out, no_more, effects_agree, bounds_agree, tied_itself}
use Rattle.store_model.proofs.Effects.Laws.{NoMore, Laws, Tied, weaker}
use Rattle.store_model.proofs.Effects.Following.{Relation, FollowsOut, FollowsEffects, Bounds, one_bound, FollowsOuts, ends}
use Rattle.store_model.proofs.Abstract.Effects.{choices_of, free_laws}
use Rattle.store_model.proofs.Concrete.Effects.{ticks_of, KeepsTicks, TiesTicks, bodies_agree}
use Rattle.store_model.specs.Effects.{Stuck, Out, Halts, Effects}
use Rattle.store_model.specs.Abstract.Effects.{abstract_effects}
use Rattle.store_model.specs.Concrete.State.{State}
use Rattle.typed_tree.specs.Tree.{BodyTree, ProgramTree}
use Rattle.src_meaning.proofs.ProgramsFollow.{activation_follow}
use Rattle.src_meaning.specs.Locals.Effects.{action_at, test_at, site_at, at_locals}
use Rattle.src_meaning.specs.Laws.{FuelOfFreeRunsIsIrrelevant, FuelOfRunsIsIrrelevant}
use Rattle.src_meaning.specs.Locals.OfBody.{local_of}
use Rattle.src_meaning.specs.Programs.{activation, setting_of, code_of, within_body}

-- effects on locals follow one another on keys
pub located : {W V : Type 0} (rel : Relation W V) (local_of : ℕ → ℕ) (p : Effects W) (q : Effects V) → FollowsEffects rel p q →
    FollowsEffects rel (at_locals local_of p) (at_locals local_of q)
located rel local_of p q follow = record {
  acting = λ action. follow.acting (action_at local_of action);
  choosing = λ test. follow.choosing (test_at local_of test);
  dropping = λ mode site. follow.dropping mode (site_at local_of site);
  panicking = follow.panicking;
  ticking = follow.ticking;
  giving = λ site. follow.giving (site_at local_of site);
}

-- a run of a body over effects that agree where at most so much is left
pub body_agrees : {W : Type 0} (size : W → ℕ) (k : ℕ) (items : ItemTable) (local_of : ℕ → ℕ) (p q : Effects W) → Laws p size → Tied p q size k →
    (fuel fuel' : ℕ) → Bounds (agreement size k) p.tick q.tick fuel fuel' → (body : BodyTree) (w : W) → size w ≤ k →
    FollowsOut (agreement size k) (size w) (activation items (at_locals local_of p) fuel body w) (λ t. activation items (at_locals local_of q) fuel' body w)
body_agrees size k items local_of p q laws tied fuel fuel' bounds body w l =
    activation_follow (agreement size k) items (at_locals local_of p) (at_locals local_of q)
    (located (agreement size k) local_of p q (effects_agree size k p q laws tied)) fuel fuel' bounds body (size w) w w (refl, omega arith, l)

pub free_run_same : FuelOfFreeRunsIsIrrelevant
free_run_same items body local_ty fuel other w l l' =
    same_out choices_of (choices_of w)
    (body_agrees choices_of (choices_of w) items (local_of items body) (abstract_effects items local_ty) (abstract_effects items local_ty) (free_laws items local_ty)
    (tied_itself choices_of (choices_of w) (abstract_effects items local_ty)) fuel other
    (bounds_agree choices_of (choices_of w) (abstract_effects items local_ty) (abstract_effects items local_ty) (free_laws items local_ty)
    (tied_itself choices_of (choices_of w) (abstract_effects items local_ty)) fuel other l l') body w (omega arith))

if_body_less : (m : ℕ) (o : Option BodyTree) (f : BodyTree → Out State) (w : State) → ((body : BodyTree) → NoMore ticks_of m (f body)) →
    NoMore ticks_of m (option_map_or f o (Halts Stuck w))
if_body_less m None f w e = tt
if_body_less m (Some body) f w e = e body

if_body_same : (o : Option BodyTree) (f f' : BodyTree → Out State) (w : State) → ((body : BodyTree) → f body ≡ f' body) →
    option_map_or f o (Halts Stuck w) ≡ option_map_or f' o (Halts Stuck w)
if_body_same None f f' w e = refl
if_body_same (Some body) f f' w e = e body

program_keeps : (program : ProgramTree) → KeepsTicks (code_of program)
program_keeps program p laws turns number m w l =
    if_body_less m (slice_get program.bodies number) _ w
    (λ body. weaker ticks_of m w.ticks (within_body program.items p turns body w) l
    (no_more ticks_of w.ticks (body_agrees ticks_of w.ticks program.items (local_of program.items body) p p laws (tied_itself ticks_of w.ticks p)
    turns turns (one_bound turns) body w (omega arith))))

program_ties : (program : ProgramTree) → TiesTicks (code_of program)
program_ties program p q laws m tied turns turns' number h h' w l =
    if_body_same (slice_get program.bodies number) _ _ w
    (λ body. same_out ticks_of m
    (body_agrees ticks_of m program.items (local_of program.items body) p q laws tied turns turns'
    (bounds_agree ticks_of m p q laws tied turns turns' h h') body w l))

pub run_same : FuelOfRunsIsIrrelevant
run_same program = bodies_agree (setting_of program) (code_of program) (program_keeps program) (program_ties program)

-- What is done within a body follows itself, over effects that follow one another, whatever relates them.

if_body_follows : {V : Type 0} (rel : Relation State V) (o : Option BodyTree) (f : BodyTree → State → Out State) (f' : BodyTree → V → Out V) →
    ((body : BodyTree) → FollowsOuts rel (f body) (f' body)) →
    FollowsOuts rel (λ w. option_map_or (λ body. f body w) o (Halts Stuck w)) (λ v. option_map_or (λ body. f' body v) o (Halts Stuck v))
if_body_follows rel None f f' e n w c k = ends rel n Stuck w c k
if_body_follows rel (Some body) f f' e n w c k = e body n w c k

pub within_follows : (program : ProgramTree) (rel : Relation State State) (p q : Effects State) → FollowsEffects rel p q → (turns number : ℕ) →
    FollowsOuts rel ((code_of program).within p turns number) ((code_of program).within q turns number)
within_follows program rel p q follow turns number =
    if_body_follows rel (slice_get program.bodies number) (within_body program.items p turns) (within_body program.items q turns)
    (λ body. activation_follow rel program.items (at_locals (local_of program.items body) p) (at_locals (local_of program.items body) q)
    (located rel (local_of program.items body) p q follow) turns turns (one_bound turns) body)
