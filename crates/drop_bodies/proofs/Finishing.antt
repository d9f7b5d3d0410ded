-- A body with its flags, and with its blocks under their new ranks, is elaborated.
use Rattle.std.proofs.Common.{◌≡◌, ◌∙◌, ◌∷◌, [], ◌++◌, ◌-◌, ℕ, List, Some, Contains, map, length, ap, subst, refl, arith}
use Rattle.std.specs.List.{range_with_len}
use Rattle.std.proofs.lemmas.List.{length-append, length-map}
use Rattle.std.proofs.lemmas.List.FromFn.{length-range_with_len}
use Rattle.mir_ty.specs.declared.ty.Ty.{Ty}
use Rattle.mir_ty.specs.declared.ty.TyId.{TyId}
use Rattle.mir_ty.specs.ItemTable.{ItemTable, type_at}
use Rattle.store_model.specs.Places.Place.{Place}
use Rattle.cfg_graph.specs.declared.graph.Block.{Block}
use Rattle.cfg_graph.specs.declared.graph.Body.{Body}
use Rattle.cfg_graph.specs.Edges.{IsRanked}
use Rattle.cfg_graph.proofs.Ranked.{well_formed-ranked}
use Rattle.move_paths.specs.Forest.{PathForest, IsForest}
use Rattle.drop_elaborate.proofs.ReadyBody.{targets-there}
use Rattle.drop_laws.proofs.ReadyLines.{ready-lines}
use Rattle.drop_elaborate.specs.Build.{Made}
use Rattle.drop_elaborate.specs.Elaborated as rules
use Rattle.drop_elaborate.specs.Elaborated.{IsElaboratedBody, IsElaboratedWith}
use Rattle.drop_elaborate.specs.Kinds.{AreFlagged}
use Rattle.drop_ends.specs.declared.decided.Decided.{Decided}
use Rattle.drop_kinds.specs.Decided.{AreDecided}
use Rattle.drop_laws.proofs.Ranking.{new-ranks-fit}
use Rattle.drop_laws.specs.Ranked.{total_of, ranked_with, AreLaid, EdgesStayInside}
use Rattle.drop_laws.specs.Ready.{IsReadyBody}
use Rattle.drop_ranks.specs.Ranks.{AreTops, lower_ranks}
use Rattle.drop_bodies.proofs.Assembled.{blocks-done}
use Rattle.drop_bodies.specs.Done.{AreDone}
use Rattle.drop_bodies.specs.Laid.{IsFinished}

-- as many ranks as blocks are made
lower-long : (tops sizes : List ℕ) → length tops ≡ length sizes → length (lower_ranks tops sizes) ≡ total_of sizes
lower-long [] [] same = refl
lower-long [] (size ∷ sizes) same = absurd (let never : ⊥ = omega (same, arith) in never)
lower-long (top ∷ tops) [] same = absurd (let never : ⊥ = omega (same, arith) in never)
lower-long (top ∷ tops) (size ∷ sizes) same =
    let all = length-append (range_with_len (top - size) size) (lower_ranks tops sizes) in
    let first = length-range_with_len (top - size) size in
    let rest = lower-long tops sizes (omega (same, arith)) in omega (all, first, rest, arith)

pub ranks-long : (body : Body) (blocks new : List Block) (sizes tops : List ℕ) → AreLaid body blocks new sizes →
    AreTops (map (λ (block : Block). block.rank) body.blocks) sizes tops →
    length (tops ++ lower_ranks tops sizes) ≡ length (blocks ++ new)
ranks-long body blocks new sizes tops laid are =
    let count = are.long ∙ length-map body.blocks (λ (block : Block). block.rank) in
    let sized = laid.sized in
    let lower = lower-long tops sizes (omega (count, sized, arith)) in
    let one = length-append tops (lower_ranks tops sizes) in
    let other = length-append blocks new in
    let long = laid.long in
    let total = laid.total in omega (one, other, lower, count, long, total, arith)

-- a body of a ready graph
module _ (items : ItemTable) (body : Body) (ready : IsReadyBody items body) where
  pub edges-inside : EdgesStayInside body
  edges-inside n block at m has =
      targets-there ready.graph.items (length ready.graph.bodies) body
      (ready-lines ready.graph ready.sound ready.ready ready.number body ready.there) n block at m has

  pub was-ranked : IsRanked body
  was-ranked = well_formed-ranked ready.graph ready.number body ready.ready.well_formed ready.there

  pub has-bool : Contains items.types Ty.Bool
  has-bool = subst (λ (i : ItemTable). Contains i.types Ty.Bool) ready.items_are ready.ready.has_bool

  module _ (forest : PathForest) (is : IsForest items body forest) (flagged : List Place)
      (are_flagged : AreFlagged items body forest.paths flagged) (decided : List Decided)
      (are_decided : AreDecided items body forest.paths (rules.flag_of items body flagged forest.paths) (length body.blocks) decided)
      (blocks : List Block) (new : Made) (done : AreDone items body flagged decided (length body.blocks) blocks new)
      (sizes : List ℕ) (laid : AreLaid body blocks new.blocks sizes) (flag_ty : TyId) (flag_is : type_at items flag_ty ≡ Some Ty.Bool)
      (after : Body) (finished : IsFinished body blocks new.blocks sizes flag_ty (length flagged) after) where
    ranks-are : finished.ranks ≡ finished.ranked.0 ++ lower_ranks finished.ranked.0 sizes
    ranks-are = finished.ranked.2

    pub done-so : IsElaboratedWith items body flagged after
    done-so = record {
      params = finished.params;
      flag_ty = flag_ty;
      flag_is = flag_is;
      locals = finished.locals;
      ranked = new-ranks-fit body after blocks new.blocks sizes finished.ranked.0 was-ranked edges-inside laid
          finished.ranked.1
          (subst (λ (ranks : List ℕ). after.blocks ≡ ranked_with (blocks ++ new.blocks) ranks) ranks-are finished.blocks);
      blocks = blocks-done items body forest is flagged are_flagged decided are_decided blocks new done after finished.ranks
          (ap length ranks-are ∙ ranks-long body blocks new.blocks sizes finished.ranked.0 laid finished.ranked.1)
          finished.blocks;
    }

    pub elaborated-so : IsElaboratedBody items body after
    elaborated-so = record {
      forest = forest;
      is_forest = is;
      flagged = flagged;
      are_flagged = are_flagged;
      done = done-so;
    }
