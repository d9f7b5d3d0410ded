-- What is sound and settled is the least set.
use Rattle.std.proofs.Common.{◌≡◌, ℕ, Bool, true, false, List, IsTrue, refl, sym}
use Rattle.std.proofs.lemmas.Bool.{or_left, or_right}
use Rattle.mir_ty.specs.ItemTable.{ItemTable}
use Rattle.typed_tree.specs.Tree.{ProgramTree}
use Rattle.typing_rules.specs.Replaced.{BodyParameter, Facts, Replaceable, by_store, by_call, is_among, is_replaced, bodies_of, all_facts, replaceable}
use Rattle.typing_rules.proofs.LeastSet.{rounds_find_the_least}
use Rattle.borrow_rules.proofs.Sets.{any_of}
use Rattle.borrow_rules.specs.Found.{AreSettled, IsFound, IsSound}

closed : (items : ItemTable) (facts : List Facts) (params : List BodyParameter) → AreSettled false items facts params → {number body : ℕ} → Replaceable items facts number body → IsTrue (is_among params number body)
closed items facts params settled (by_store f has stored) = settled f has (or_left f.is_stored _ stored)
closed items facts params settled (by_call f p body has passes calls rest) =
    settled f has
    (or_right f.is_stored _ (any_of (is_replaced items params) f.passed p passes
    (any_of (is_among params p.number) (bodies_of items p.callee) body calls (closed items facts params settled rest))))

both_ways : (a b : Bool) → (IsTrue a → IsTrue b) → (IsTrue b → IsTrue a) → a ≡ b
both_ways true true f g = refl
both_ways true false f g = sym (f refl)
both_ways false true f g = g refl
both_ways false false f g = refl

pub found_all : (p : ProgramTree) (params : List BodyParameter) → IsSound p.items (all_facts p.bodies) params → AreSettled false p.items (all_facts p.bodies) params → IsFound p params
found_all p params sound settled number body =
    both_ways (is_among params number body) (is_among (replaceable p) number body)
    (λ h. (rounds_find_the_least p number body).1 (sound number body h))
    (λ h. closed p.items (all_facts p.bodies) params settled ((rounds_find_the_least p number body).0 h))
