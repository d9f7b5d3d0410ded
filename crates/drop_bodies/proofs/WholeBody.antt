-- A body with exact drops adds no fault to its raw body, which is one of a ready graph.
use Rattle.std.proofs.Common.{◌≡◌, ◌∙◌, ◌++◌, ℕ, List, Some, length, sym, ap, subst}
use Rattle.mir_ty.specs.declared.ty.Ty.{Ty}
use Rattle.mir_ty.specs.declared.ty.TyId.{TyId}
use Rattle.mir_ty.specs.ItemTable.{ItemTable, type_at}
use Rattle.store_model.specs.Places.Place.{Place}
use Rattle.cfg_graph.specs.declared.graph.Block.{Block}
use Rattle.cfg_graph.specs.declared.graph.Body.{Body}
use Rattle.move_paths.specs.Forest.{PathForest, IsForest}
use Rattle.drop_elaborate.proofs.ReadyBody.{BodyIsReady}
use Rattle.drop_laws.proofs.ReadyLines.{ready-lines}
use Rattle.drop_elaborate.specs.Build.{Made}
use Rattle.drop_elaborate.specs.Elaborated as rules
use Rattle.drop_elaborate.specs.Elaborated.{IsElaboratedWith}
use Rattle.drop_elaborate.specs.Kinds.{AreFlagged}
use Rattle.drop_ends.specs.declared.decided.Decided.{Decided}
use Rattle.drop_kinds.specs.Decided.{AreDecided}
use Rattle.drop_laws.specs.Ranked.{AreLaid}
use Rattle.drop_laws.specs.Ready.{IsReadyBody}
use Rattle.drop_bodies.proofs.BodyFaults.{NoFaultIn, taken-apart, put-together}
use Rattle.drop_bodies.proofs.DropsFine.{ends-fine}
use Rattle.drop_bodies.proofs.Faultless.{cleans-so, calm-so, out-so}
use Rattle.drop_bodies.proofs.FaultlessBody.{no-fault-after}
use Rattle.drop_bodies.proofs.Finishing.{ranks-long, done-so}
use Rattle.drop_bodies.proofs.KeptBlocks.{AllKept, kept-all}
use Rattle.drop_bodies.proofs.StoresFine.{FineHere, resume-fine}
use Rattle.drop_bodies.specs.Done.{AreDone}
use Rattle.drop_bodies.specs.Ended.{AreEnded}
use Rattle.drop_bodies.specs.Faults.{AddsNoFault}
use Rattle.drop_bodies.specs.Laid.{IsFinished}

module _ (items : ItemTable) (body : Body) (ready : IsReadyBody items body) (forest : PathForest) (is : IsForest items body forest)
    (flagged : List Place) (are_flagged : AreFlagged items body forest.paths flagged) (decided : List Decided)
    (are_decided : AreDecided items body forest.paths (rules.flag_of items body flagged forest.paths) (length body.blocks) decided)
    (blocks : List Block) (new : Made) (done : AreDone items body flagged decided (length body.blocks) blocks new)
    (ended : AreEnded items body flagged decided (length body.blocks) blocks new) (sizes : List ℕ)
    (laid : AreLaid body blocks new.blocks sizes) (flag_ty : TyId) (flag_is : type_at items flag_ty ≡ Some Ty.Bool) (after : Body)
    (finished : IsFinished body blocks new.blocks sizes flag_ty (length flagged) after) where
  whole : IsElaboratedWith items body flagged after
  whole = done-so items body ready forest is flagged are_flagged decided are_decided blocks new done sizes laid flag_ty
      flag_is after finished

  line-by-line : BodyIsReady items (length ready.graph.bodies) body
  line-by-line =
      subst (λ (i : ItemTable). BodyIsReady i (length ready.graph.bodies) body) ready.items_are
      (ready-lines ready.graph ready.sound ready.ready ready.number body ready.there)

  long : length finished.ranks ≡ length (blocks ++ new.blocks)
  long = ap (λ (l : List ℕ). length l) finished.ranked.2
      ∙ ranks-long body blocks new.blocks sizes finished.ranked.0 laid finished.ranked.1

  module _ (bodies number : ℕ) (none : NoFaultIn items bodies number body) where
    kept : AllKept items body flagged decided (FineHere items bodies body flag_ty flag_is flagged) blocks new
    kept =
        kept-all items body flagged decided (FineHere items bodies body flag_ty flag_is flagged)
        (resume-fine items bodies body flag_ty flag_is flagged)
        (ends-fine items bodies number body none (length ready.graph.bodies) line-by-line forest is flag_ty flag_is flagged decided
        are_decided)
        (out-so items bodies number body none) (cleans-so items bodies number body none) (calm-so items bodies number body none)
        (length body.blocks) blocks new ended

    after-none : NoFaultIn items bodies number after
    after-none =
        no-fault-after items bodies number body none flag_ty flag_is flagged decided after finished.params finished.locals
        whole.ranked blocks new laid.long finished.ranks long finished.blocks kept whole.blocks

  pub adds-no-fault : AddsNoFault items body after
  adds-no-fault graph number same none =
      put-together graph number after
      (subst (λ (i : ItemTable). NoFaultIn i (length graph.bodies) number after) (sym same)
      (after-none (length graph.bodies) number
      (subst (λ (i : ItemTable). NoFaultIn i (length graph.bodies) number body) same (taken-apart graph number body none))))
