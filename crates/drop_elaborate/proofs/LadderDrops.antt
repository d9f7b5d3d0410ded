-- The ladder of a drop that is planned does what the raw drop does there: what the actions of the path tell fits its
-- plan.
use Rattle.std.proofs.Common.{◌≡◌, ℕ, zero, suc, ◌≤◌, ◌<◌, nat_lt, not, Bool, true, List, [], ◌∷◌, length, Option, Some, None, slice_get, ap, sym, ◌∙◌, subst, arith}
use Rattle.std.proofs.lemmas.Bool.{lt-ltb}
use Rattle.std.proofs.lemmas.Option.{none-some}
use Rattle.mir_ty.specs.declared.ty.TyId.{TyId}
use Rattle.mir_ty.specs.ItemTable.{ItemTable}
use Rattle.cfg_graph.specs.declared.graph.Body.{Body}
use Rattle.cfg_graph.specs.declared.place.Place as graph
use Rattle.cfg_graph.specs.Moves.BadUses.{bad_uses_on}
use Rattle.cfg_graph.specs.Moves.Gone.{PathAction, is_gone_after}
use Rattle.cfg_graph.specs.Moves.Paths.{IsPath}
use Rattle.cfg_graph.specs.Moves.Present.{present_after}
use Rattle.cfg_graph.specs.Places.{named}
use Rattle.cfg_meaning.specs.Walk.{Next, naming}
use Rattle.store_model.proofs.Concrete.Effects.{ticks_of, Spending}
use Rattle.store_model.specs.declared.address.Addr.{Addr}
use Rattle.store_model.specs.Concrete.Drops.{Begins, drop_at}
use Rattle.store_model.specs.Concrete.Effects.{concrete_effects}
use Rattle.store_model.specs.Concrete.Location.{Setting, Located, Reaches, reach}
use Rattle.store_model.specs.Concrete.State.{State, Bodies}
use Rattle.store_model.specs.Places.Place.{Place}
use Rattle.store_model.specs.Values.Datum.{Gone, Truth}
use Rattle.drop_values.specs.Like.{Flags, Like, SameBodies, MayEnter, raw_setting, strict_setting, Extends}
use Rattle.drop_values.specs.Plan.{Plan}
use Rattle.drop_values.specs.Planning.{plan_of}
use Rattle.drop_values.proofs.Frame.{Frames}
use Rattle.drop_values.proofs.Knows.{PlainSteps}
use Rattle.drop_values.proofs.Stand.{Changed}
use Rattle.drop_values.proofs.Touched.{AllNameFull}
use Rattle.drop_elaborate.proofs.Dropped.{DropPlace, Found}
use Rattle.drop_elaborate.proofs.Entered.{Enters}
use Rattle.drop_elaborate.proofs.Held.{Held}
use Rattle.drop_elaborate.proofs.Ladder.{Ends as LadderEnds}
use Rattle.drop_elaborate.proofs.OwnLadder.{own-ladder}
use Rattle.drop_elaborate.proofs.PathTrees.{told-tree, flagged-place, typed-tree}
use Rattle.drop_elaborate.proofs.ReadyBody.{BodyIsReady}
use Rattle.drop_elaborate.proofs.Walks.{unplaced, Walks}
use Rattle.drop_elaborate.specs.Elaborated.{flag_at, flag_of, IsPlanned}
use Rattle.drop_elaborate.specs.Kinds.{Comes, IsDrop}
use Rattle.drop_elaborate.specs.Ladder.{LadderAt, Ending, mode_in}

index-less : {A : Type 0} (xs : List A) (k : ℕ) (x : A) → slice_get xs k ≡ Some x → k < length xs
index-less [] k x e = absurd (none-some x e)
index-less (y ∷ xs) zero x e = omega arith
index-less (y ∷ xs) (suc k) x e = let l = index-less xs k x e in omega (arith, l)

module _ (items : ItemTable) (local_ty local_ty' : (body local : ℕ) → Option TyId)
    (extends : Extends local_ty local_ty') (run run' : Bodies)
    (frames : Frames (raw_setting items local_ty) run) (spending : Spending run) (most : ℕ)
    (may_enter : MayEnter items local_ty (Enters items local_ty))
    (tie : SameBodies local_ty (Enters items local_ty) most run run') (bound : ℕ) (great : most < bound)
    (body' : Body) (WalkE : Next State)
    (walks : Walks (naming unplaced (concrete_effects (strict_setting items local_ty') run' bound)) ticks_of most body'
    (λ block line. 0) WalkE) (number depth bodies : ℕ) (body : Body)
    (addresses : List Addr) (before : State) (given : AllNameFull items local_ty before addresses)
    (locals_are : (k : ℕ) → local_ty number k ≡ slice_get body.locals k) (ready : BodyIsReady items bodies body)
    (fine : (path : List ℕ) (given : List Bool) → IsPath items body path given → bad_uses_on items body path ≡ [])
    (flagged : List Place) (flag_ty : TyId)
    (added : (n : ℕ) → n < length flagged → (local_ty number (flag_at items body flagged n) ≡ None)
    × (local_ty' number (flag_at items body flagged n) ≡ Some flag_ty)) where
  abbrev raw : Setting
  raw = raw_setting items local_ty

  module _ (n : ℕ) (done : List PathAction) (comes : Comes items body n done) (place : graph.Place)
      (is_drop : IsDrop items body n (named place))
      (there : DropPlace items local_ty number depth bodies body addresses before given locals_are ready done place)
      (flags : Flags) (tell : (k : ℕ) (x : Place) → slice_get flagged k ≡ Some x →
      flags depth (flag_at items body flagged k) ≡ Truth (not (is_gone_after items body done x)))
      (v v' : State) (h : Held items local_ty number depth body addresses before given locals_are done v) (s : Located)
      (er : reach raw v (named place) ≡ Reaches s)
      (found : Found items local_ty number depth bodies body addresses before given locals_are ready done v place
      there h
      s) (like : Like local_ty flags v v') (few : v.ticks ≤ most)
      (plan : Plan) (planned : IsPlanned items body flagged n (named place) plan)
      (start : TyId) (typed : local_ty number (named place).local ≡ Some start)
      (flatly : PlainSteps items (named place).steps start there.id) where
    abbrev HereFlag : ℕ → Type 0
    HereFlag flag = (local_ty number flag ≡ None) × ((id : TyId) × (local_ty' number flag ≡ Some id))

    flags_tell : (k : ℕ) (x : Place) → slice_get flagged k ≡ Some x → HereFlag (flag_at items body flagged k)
        × (flags depth (flag_at items body flagged k) ≡ Truth (not (is_gone_after items body done x)))
    flags_tell k x e =
        let f = added k (index-less flagged k x e) in
        ((f.0, (flag_ty, f.1)), tell k x e)

    same-id : planned.id ≡ there.id
    same-id = let x : Some planned.id ≡ Some there.id = sym planned.typed ∙ there.typed in cc

    local_there : nat_lt (named place).local (length body.locals) ≡ true
    local_there =
        lt-ltb (named place).local (length body.locals)
        (index-less body.locals (named place).local start (sym (locals_are (named place).local) ∙ typed))

    pub planned-ladder : (from to : ℕ) (ending : Ending) → LadderAt body' plan place from to ending →
        LadderEnds items local_ty local_ty' extends run run' frames spending most (Enters items local_ty) may_enter tie
        bound great body' (λ block line. 0) WalkE walks flags number depth (Changed s.address Gone v) to ending
        (drop_at raw run bound Begins s (mode_in ending) v) (WalkE from v')
    planned-ladder from to ending ladder_at =
        own-ladder items local_ty local_ty' extends run run' frames spending most (Enters items local_ty) may_enter tie
        bound great body' (λ block line. 0) WalkE walks flags number depth planned.facts
        (flag_of items body flagged planned.forest.paths) planned.tree (present_after items body done) v v' place start
        there.id s from to ending h.knows typed flatly er found.stands found.sound
        (told-tree items bodies body ready fine flagged planned.forest planned.is_forest planned.are_flagged n done
        comes
        planned.facts planned.are_facts HereFlag (flags depth) flags_tell (named place) planned.tree local_there
        planned.is_tree)
        (flagged-place items bodies body ready fine flagged planned.forest planned.is_forest planned.are_flagged n done
        comes planned.facts planned.are_facts HereFlag (flags depth) (named place) is_drop planned.not_dead
        planned.not_sure planned.tree there.id there.typed planned.is_tree)
        (typed-tree items bodies body ready fine flagged planned.forest planned.is_forest planned.are_flagged n done
        comes
        planned.facts planned.are_facts (named place) planned.tree there.id there.typed planned.is_tree)
        (subst (λ plan. LadderAt body' plan place from to ending) (planned.plan_is
        ∙ ap (plan_of items planned.facts (flag_of items body flagged planned.forest.paths) planned.tree) same-id)
        ladder_at) like few
