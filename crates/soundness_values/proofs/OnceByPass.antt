-- The law of once, from the statement of the pass over the forms with the tests of protected parameters, and from that
-- `self` of a `Drop` body is protected.
use Rattle.std.proofs.Common.{◌≡◌, ℕ, zero, suc, ◌&&◌, not, Bool, true, false, Some}
use Rattle.std.specs.Prelude.{slice_get, option_and_then}
use Rattle.std.specs.Option.{option_map_or}
use Rattle.mir_ty.specs.declared.def.Sig.{Sig}
use Rattle.mir_ty.specs.ItemTable.{ItemTable, type_at}
use Rattle.store_model.specs.Concrete.Drops.{drop_impl}
use Rattle.store_model.specs.Concrete.Location.{DynamicType, concrete_ty}
use Rattle.store_model.specs.Places.Place.{is_reference}
use Rattle.typed_tree.specs.Tree.{ProgramTree}
use Rattle.typing_rules.specs.Replaced.{is_among, replaceable}
use Rattle.soundness_values.specs.Laws.{IsSound, EndsOnce}
use Rattle.soundness_values.proofs.CallsCounted.{falls, calls_counted}
use Rattle.soundness_values.proofs.CountedOwing.{ClearAtReturn, ClearAtPanic}
use Rattle.soundness_values.proofs.OnceBy.{ends_once}
use Rattle.soundness_values.proofs.Owing.{PassShowsMore}
use Rattle.soundness_values.proofs.ProtectTests.{protect_tests}

-- whether a parameter of a body is a reference, by the head of the body
abbrev pub is_reference_at : ItemTable → ℕ → ℕ → Bool
is_reference_at items n k = option_map_or
    (λ (sig : Sig). is_reference (option_and_then (type_at items) (slice_get sig.params k))) (slice_get items.bodies n)
    false

-- what a parameter names is replaced as a whole by no call, by the local of the parameter; what else a local leads to, by
-- a box say, is not protected
abbrev pub protected : ProgramTree → ℕ → ℕ → Bool
protected p n zero = false
protected p n (suc k) = is_reference_at p.items n k && not (is_among (replaceable p) k n)

-- the statement of the pass, with these tests; where a body returns or panics out, its locals are clear
abbrev pub PassShowsAll : ProgramTree → Type 0
PassShowsAll p = PassShowsMore p (protect_tests p.items (protected p))
    (ClearAtReturn p (protected p) (protect_tests p.items (protected p)))
    (ClearAtPanic p (protected p) (protect_tests p.items (protected p)))

abbrev pub DropsProtect : ProgramTree → Type 0
DropsProtect p = (f : DynamicType) (of : ℕ × ℕ) → drop_impl p.items (concrete_ty p.items f) ≡ Some of →
    protected p of.1 1 ≡ true

module _ (drops : (p : ProgramTree) → IsSound p → DropsProtect p) (pass : (p : ProgramTree) → IsSound p → PassShowsAll p)
  where
    pub ends_once_by : EndsOnce
    ends_once_by p asked ticks sound =
        ends_once p (protected p) (protect_tests p.items (protected p)) sound.typed
        (falls p (protected p) sound.typed (drops p sound)) (drops p sound)
        (calls_counted p (protected p) sound.typed (drops p sound)) (pass p sound) asked ticks
