-- A claim holds exactly where its test says so.
use Rattle.std.proofs.Common.{Bool, true, false, ◌&&◌, IsTrue, refl}
use Rattle.well_typed.specs.Claim.{Claim, fact, both, Holds, is_so}

pub and_true : (a b : Bool) → IsTrue a → IsTrue b → IsTrue (a && b)
and_true true b ha hb = hb
and_true false b ha hb = ha

pub true_left : (a b : Bool) → IsTrue (a && b) → IsTrue a
true_left true b h = refl
true_left false b h = h

pub true_right : (a b : Bool) → IsTrue (a && b) → IsTrue b
true_right true b h = h
true_right false b h = absurd (cc)

pub so_where_holds : (c : Claim) → Holds c → IsTrue (is_so c)
so_where_holds (fact test) h = h
so_where_holds (both a b) h = and_true (is_so a) (is_so b) (so_where_holds a h.0) (so_where_holds b h.1)

pub holds_where_so : (c : Claim) → IsTrue (is_so c) → Holds c
holds_where_so (fact test) h = h
holds_where_so (both a b) h =
    (holds_where_so a (true_left (is_so a) (is_so b) h), holds_where_so b (true_right (is_so a) (is_so b) h))
