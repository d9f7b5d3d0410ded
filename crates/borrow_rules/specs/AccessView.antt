-- Places, accesses and what is told of an expression in Rust, as the rules of borrows see them.
use Rattle.std.specs.Prelude.{ℕ, List, [], ◌∷◌, Option, None, map, option_map}
use Rattle.mir_base.specs.declared.place_in_text.Key.{Key}
use Rattle.mir_base.specs.declared.place_in_text.Pos.{Pos}
use Rattle.borrow_rules.specs.declared.access.Access as rust
use Rattle.borrow_rules.specs.declared.access.Accessed.{Accessed}
use Rattle.borrow_rules.specs.declared.access.CollectedAccesses.{CollectedAccesses}
use Rattle.borrow_rules.specs.declared.arguments.Argument.{Argument}
use Rattle.borrow_rules.specs.declared.arguments.Referring.{Referring}
use Rattle.borrow_rules.specs.declared.bindings.BoundPart.{BoundPart}
use Rattle.borrow_rules.specs.declared.place.Alias.{Alias}
use Rattle.borrow_rules.specs.declared.place.AccessPlace.{AccessPlace}
use Rattle.borrow_rules.specs.declared.place.AccessStep as steps
use Rattle.typed_tree.specs.declared.node.Use.{Use}
use Rattle.typing_rules.specs.Accesses as rules
use Rattle.typing_rules.specs.Accesses.{ToPart, ToContent, Reads, Moves, Stores, Borrows, BorrowsUniquely}

abbrev pub step_in : steps.AccessStep → rules.AccessStep
step_in (steps.AccessStep.Part number) = ToPart number
step_in steps.AccessStep.Content = ToContent

abbrev pub place_in : AccessPlace → rules.AccessPlace
place_in p = record { key = p.key.0; steps = map step_in p.steps; has_ended = p.has_ended }

abbrev pub place_if_any : Option AccessPlace → Option rules.AccessPlace
place_if_any place = option_map place_in place

abbrev pub key_no : Key → ℕ
key_no key = key.0

abbrev pub key_if_any : Option Key → Option ℕ
key_if_any key = option_map key_no key

abbrev pub alias_in : Alias → ℕ × Option rules.AccessPlace
alias_in a = (a.key.0, place_if_any a.place)

abbrev pub aliases_in : List Alias → rules.Aliases
aliases_in aliases = map alias_in aliases

abbrev pub access_in : rust.Access → rules.Access
access_in rust.Access.Reads = Reads
access_in rust.Access.Moves = Moves
access_in rust.Access.Stores = Stores
access_in rust.Access.Borrows = Borrows
access_in rust.Access.BorrowsUniquely = BorrowsUniquely

abbrev pub access_if_any : Option rust.Access → Option rules.Access
access_if_any access = option_map access_in access

abbrev pub accessed_in : Accessed → rules.Accessed
accessed_in a =
    record {
      access = access_in a.access;
      place = place_if_any a.place;
      root = key_if_any a.root;
      at = a.at;
    }

abbrev pub told_in : CollectedAccesses → rules.CollectedAccesses
told_in t = record { accesses = map accessed_in t.accesses.items; conflicts = t.conflicts.items }

abbrev pub bound_in : BoundPart → ℕ × rules.Accessed
bound_in b = (b.key.0, accessed_in b.taken)

abbrev pub referring_in : Referring → rules.Referring
referring_in r = record { place = place_if_any r.place; unique = r.is_unique }

abbrev pub referring_if_any : Option Referring → Option rules.Referring
referring_if_any r = option_map referring_in r

abbrev pub argument_in : Argument → rules.Argument
argument_in a =
    record {
      refers = referring_if_any a.refers;
      is_receiver = a.is_receiver;
      at = a.at;
      told = told_in a.told;
    }

-- the part that one name takes
abbrev pub bound_name : Option rules.AccessPlace → ℕ → Pos → Option Use → List (ℕ × rules.Accessed)
bound_name place id at by =
    (id, record { access = rules.access_of_binding by; place = place; root = None; at = at }) ∷ []
