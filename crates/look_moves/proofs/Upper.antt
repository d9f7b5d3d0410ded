-- Steps of places that are the same are so by name; the first steps of a place, by the test of lists.
use Rattle.std.proofs.Common.{◌≡◌, ◌&&◌, List, [], ◌∷◌, map, refl}
use Rattle.std.specs.List.{starts_with}
use Rattle.store_model.specs.Places.Place.{same_step}
use Rattle.cfg_graph.specs.declared.place.Step.{Step}
use Rattle.cfg_graph.specs.contracts.place.StepPartialEq.TheImpl as step
use Rattle.cfg_graph.specs.Moves.Gone.{are_first}
use Rattle.cfg_graph.specs.Places.{named_step}

same-is : (a b : Step) → step.ghosts.eq a b ≡ same_step (named_step a) (named_step b)
same-is (Step.Part m) (Step.Part n) = refl
same-is (Step.Part m) (Step.Field u n) = refl
same-is (Step.Part m) Step.Inside = refl
same-is (Step.Part m) (Step.Index n) = refl
same-is (Step.Field v m) (Step.Part n) = refl
same-is (Step.Field v m) (Step.Field u n) = refl
same-is (Step.Field v m) Step.Inside = refl
same-is (Step.Field v m) (Step.Index n) = refl
same-is Step.Inside (Step.Part n) = refl
same-is Step.Inside (Step.Field u n) = refl
same-is Step.Inside Step.Inside = refl
same-is Step.Inside (Step.Index n) = refl
same-is (Step.Index m) (Step.Part n) = refl
same-is (Step.Index m) (Step.Field u n) = refl
same-is (Step.Index m) Step.Inside = refl
same-is (Step.Index m) (Step.Index n) = refl

-- the steps of the other place are the same as far as the first ones go
pub first-is : (upper lower : List Step) → starts_with step.ghosts.eq lower upper
    ≡ are_first (map named_step upper) (map named_step lower)
first-is [] lower = refl
first-is (a ∷ upper) [] = refl
first-is (a ∷ upper) (b ∷ lower) = λ i. same-is a b i && first-is upper lower i
