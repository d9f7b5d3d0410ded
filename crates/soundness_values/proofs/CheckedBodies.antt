-- The checks of a body: which of its locals are reference parameters, and what is known as it begins.
use Rattle.std.proofs.Common.{ℕ, ◌+◌, ◌&&◌, Bool, true, false, List, [], ◌∷◌, length, Option, None}
use Rattle.std.specs.Prelude.{nat_lt, option_and_then}
use Rattle.mir_ty.specs.declared.ty.TyId.{TyId}
use Rattle.mir_ty.specs.ItemTable.{ItemTable, type_at}
use Rattle.store_model.specs.Abstract.Effects.{AbstractState}
use Rattle.store_model.specs.Effects.{Out}
use Rattle.store_model.specs.Places.Place.{is_reference}
use Rattle.src_meaning.specs.Locals.OfBody.{local_ty}
use Rattle.typed_tree.specs.Tree.{BodyTree, ProgramTree}
use Rattle.soundness_values.proofs.Checked.{Checking, Checks, checked_run}
use Rattle.soundness_values.proofs.Checks.{may_act, after_action, after_unwound, may_choose, after_taken, after_declined, may_drop, after_drop, may_give}
use Rattle.soundness_values.proofs.Facts.{Facts, no_facts}

-- a parameter of a reference type
abbrev pub is_reference_param : ItemTable → BodyTree → ℕ → Bool
is_reference_param items body local =
    (nat_lt 0 local && nat_lt local (1 + length body.params)) && is_reference
    (option_and_then (type_at items) (local_ty items body local))

abbrev pub checks_of : ItemTable → BodyTree → Checks Facts
checks_of items body = record {
  act_ok = λ action v facts. may_act items (local_ty items body) (is_reference_param items body) facts v.cells
      action;
  act_facts = λ action v facts. after_action items (local_ty items body) (is_reference_param items body) action
      facts;
  unwound_facts = λ action v facts.
      after_unwound items (local_ty items body) (is_reference_param items body) action facts;
  test_ok = λ test v facts. may_choose items (local_ty items body) (is_reference_param items body) facts test;
  taken_facts = λ test v facts. after_taken items (local_ty items body) (is_reference_param items body) test facts;
  declined_facts = λ test v facts. after_declined items (local_ty items body) (is_reference_param items body) test
      facts;
  drop_ok = λ mode site v facts. may_drop items (local_ty items body) (is_reference_param items body) mode facts
      site.place;
  drop_facts = λ mode site v facts. after_drop items (local_ty items body) (is_reference_param items body) site.place
      facts;
  give_ok = λ site v facts. may_give items (local_ty items body) (is_reference_param items body) facts v.cells
      site.place;
}
