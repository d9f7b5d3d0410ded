use Rattle.std.proofs.Common.{◌+◌, ◌<◌, ◌^◌, length, sym, arith, subst}
use Rattle.std.proofs.lemmas.Option.{slice_get_within}
use Rattle.move_paths.specs.declared.parts.PathPart.{PathPart}
use Rattle.move_paths.specs.Trie.{IsTrie, Adds, places}
use Rattle.move_paths.proofs.Growth.{trie-adds, grows-adds, added-here}
use Rattle.move_paths.proofs.trie.Trie.step_from.Goals as goal
use Rattle.move_paths.proofs.trie.Trie.step_from.Goals.{In_ok-n}

-- the part that is added
abbrev new : In_ok-n → PathPart
new c = record { of = c.args.of; step = c.args.step }

inside : (c : In_ok-n) → c.args.of < length (places c.self.inside.locals c.self.inside.parts)
inside c = rw c.self.view_is c.requires

room : (c : In_ok-n) → c.self.inside.locals + length c.self.inside.parts + 1 < 2 ^ 32
room c = let few = c.if-self-len.false in let count = c.len.ensures in omega (few, count, arith)

adds : (c : In_ok-n) → Adds c.self.inside.parts c.number.new.self (new c)
adds c = c.in_ok-n.ensures.parts

still : (c : In_ok-n) → IsTrie c.self.inside.locals c.number.new.self
still c = trie-adds c.self.inside.locals c.self.inside.parts c.self.invariant c.number.new.self (new c) (adds c) (inside c) (room c)

within : (c : In_ok-n) → c.in_ok-n.n < length c.number.new.self
within c = slice_get_within c.number.new.self c.in_ok-n.n (new c) c.in_ok-n.ensures.number

pub invariant_of-self : goal.invariant_of-self
invariant_of-self c = subst (IsTrie c.self.inside.locals) (sym c.in_err-n.ensures.refused) c.self.invariant

pub overflow_cast-result : goal.overflow_cast-result
overflow_cast-result c = let fits = (still c).fits in let here = within c in omega (fits, here, arith)

pub overflow_add-result : goal.overflow_add-result
overflow_add-result c = let fits = (still c).fits in let here = within c in omega (fits, here, arith)

pub invariant_of-self-2 : goal.invariant_of-self-2
invariant_of-self-2 c = still c

pub returns-clause-path : goal.returns-clause-path
returns-clause-path c =
    rw (← c.self.view_is) (added-here c.self.inside.locals c.self.inside.parts c.self.invariant c.number.new.self (new c) (adds c) (inside c) (room c) c.in_ok-n.n c.in_ok-n.ensures.number)

pub returns-clause-grows : goal.returns-clause-grows
returns-clause-grows c = rw (← c.self.view_is) (grows-adds c.self.inside.locals c.self.inside.parts c.self.invariant c.number.new.self (new c) (adds c) (inside c) (room c))
