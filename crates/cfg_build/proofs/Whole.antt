-- A body whose blocks are built is the body that is lowered.
use Rattle.std.proofs.Common.{◌≡◌, ◌∙◌, ◌∷◌, ◌-◌, ℕ, List, [], length, map, Option, refl, sym, ap, subst}
use Rattle.std.specs.Prelude.{option_map}
use Rattle.cfg_graph.specs.declared.graph.Block.{Block}
use Rattle.cfg_graph.specs.declared.graph.Kind.{Kind}
use Rattle.lower_rules.specs.Spots.{body_ways}
use Rattle.mir_ty.specs.declared.ty.TyId.{TyId}
use Rattle.mir_ty.specs.ItemTable.{ItemTable}
use Rattle.src_meaning.specs.Locals.OfBody as of_body
use Rattle.src_meaning.specs.Locals.OfBody.{local_among}
use Rattle.src_meaning.specs.Scopes.{Entry, Scopes}
use Rattle.lower_code.specs.Forms.{entire_function}
use Rattle.lower_code.specs.View.{op_of}
use Rattle.lower_code.specs.declared.code.CodeWord.{CodeWord}
use Rattle.lower_passes.specs.Spans.{Stands}
use Rattle.lower_passes.specs.declared.marks.CodeMark.{CodeMark}
use Rattle.typed_tree.specs.Tree.{BodyTree}
use Rattle.lower_locals.specs.View.{keys, tys}
use Rattle.lower_rules.specs.Build as build
use Rattle.lower_rules.specs.Build.{LoweringFrame, BlockRest, Building, Lowers}
use Rattle.lower_rules.specs.Codes.{lowers}
use Rattle.lower_rules.specs.Lower as low
use Rattle.lower_rules.specs.Lower.{unmade}
use Rattle.lower_rules.proofs.Codes.{bodies}
use Rattle.std.specs.Option.{unwrap_or}
use Rattle.lower_blocks.specs.Building.{made_of}
use Rattle.lower_blocks.specs.declared.blocks.MadeBlock.{MadeBlock}
use Rattle.cfg_build.specs.Lowered.{begun, block_of, line_nodes}
use Rattle.lower_rules.specs.Listed.{nodes_of_body}

-- block 0 is filled with what is built of the code in the scope of the result
pub entire : (f : LoweringFrame) (tree : BodyTree) (S : Scopes) (start code end : BlockRest × Building) → S ≡ low.answer_scope f tree → start ≡ begun (of_body.answer_key tree) → code ≡ (lowers f (entire_function f.items tree)).build (body_ways 1) S start.0 start.1 → end.1 ≡ build.filled Kind.Plain 0 code.0 code.1 → end.1 ≡ low.built f tree
entire f tree S start code end scopes begins made filled =
    filled
    ∙ ap (λ (r : BlockRest × Building). build.filled Kind.Plain 0 r.0 r.1)
    (made
    ∙ ap (λ (T : Scopes). (lowers f (entire_function f.items tree)).build (body_ways 1) T start.0 start.1) scopes
    ∙ ap (λ (r : BlockRest × Building). (lowers f (entire_function f.items tree)).build (body_ways 1) (low.answer_scope f tree) r.0 r.1) begins
    ∙ ap (λ (P : Lowers). P.build (body_ways 1) (low.answer_scope f tree) (begun (of_body.answer_key tree)).0 (begun (of_body.answer_key tree)).1) (bodies f tree))

-- the frame of the locals of a body
abbrev frame_of_types : ItemTable → List Entry → List TyId → LoweringFrame
frame_of_types items entries types = record { items = items; local_of = local_among (keys entries); tys = types }

frame_is : (items : ItemTable) (tree : BodyTree) (entries : List Entry) (types : List TyId) → entries ≡ of_body.locals items tree → types ≡ tys entries → frame_of_types items entries types ≡ low.frame items tree
frame_is items tree entries types found typed = λ i. frame_of_types items (found i) ((typed ∙ ap tys found) i)

blocks_again : (made : List (Option MadeBlock)) → map block_of made ≡ map (λ o. (unwrap_or o unmade).block) (map (option_map made_of) made)
blocks_again [] = refl
blocks_again (one ∷ rest) = ap (λ (all : List Block). block_of one ∷ all) (blocks_again rest)

nodes_again : (made : List (Option MadeBlock)) → map line_nodes made ≡ map (λ o. (unwrap_or o unmade).nodes) (map (option_map made_of) made)
nodes_again [] = refl
nodes_again (one ∷ rest) = ap (λ (all : List (List ℕ)). line_nodes one ∷ all) (nodes_again rest)

pub blocks_are : (made : List (Option MadeBlock)) (s : Building) → map (option_map made_of) made ≡ s.blocks → map block_of made ≡ low.blocks_of s
blocks_are made s is = blocks_again made ∙ ap (λ (all : List (Option build.MadeBlock)). map (λ o. (unwrap_or o unmade).block) all) is

pub nodes_are : (made : List (Option MadeBlock)) (s : Building) → map (option_map made_of) made ≡ s.blocks → map line_nodes made ≡ low.nodes_of s
nodes_are made s is = nodes_again made ∙ ap (λ (all : List (Option build.MadeBlock)). map (λ o. (unwrap_or o unmade).nodes) all) is

-- a body of the blocks that are built with its locals
pub body_is : (items : ItemTable) (tree : BodyTree) (params : ℕ) (entries : List Entry) (types : List TyId) (made : List (Option MadeBlock)) (all : List Block) → params ≡ length tree.params → entries ≡ of_body.locals items tree → types ≡ tys entries → map (option_map made_of) made ≡ (low.built (record { items = items; local_of = local_among (keys entries); tys = types }) tree).blocks → all ≡ map block_of made → record { params = params; locals = types; blocks = all } ≡ low.body_of items tree
body_is items tree params entries types made all count found typed is blocks = λ i. record {
  params = count i;
  locals = (typed ∙ ap tys found) i;
  blocks = (blocks ∙ blocks_are made (low.built (frame_of_types items entries types) tree) is
      ∙ ap (λ (f : LoweringFrame). low.blocks_of (low.built f tree)) (frame_is items tree entries types found typed)) i;
}

pub nodes_of_is : (items : ItemTable) (tree : BodyTree) (entries : List Entry) (types : List TyId) (made : List (Option MadeBlock)) (all : List (List ℕ)) → entries ≡ of_body.locals items tree → types ≡ tys entries → map (option_map made_of) made ≡ (low.built (record { items = items; local_of = local_among (keys entries); tys = types }) tree).blocks → all ≡ map line_nodes made → all ≡ nodes_of_body items tree
nodes_of_is items tree entries types made all found typed is nodes =
    nodes ∙ nodes_are made (low.built (frame_of_types items entries types) tree) is
    ∙ ap (λ (f : LoweringFrame). low.nodes_of (low.built f tree)) (frame_is items tree entries types found typed)

-- the code of a body stands at all words, as slices have them
pub whole : (f : LoweringFrame) (tree : BodyTree) (ops words : List CodeWord) (marked marks : List CodeMark) → words ≡ ops → marks ≡ marked → Stands f (map op_of ops) marked (entire_function f.items tree) 0 (length ops - 1) → Stands f (map op_of words) marks (entire_function f.items tree) 0 (length words - 1)
whole f tree ops words marked marks same alike is =
    subst (λ (w : List CodeWord). Stands f (map op_of w) marks (entire_function f.items tree) 0 (length w - 1)) (sym same)
    (subst (λ (m : List CodeMark). Stands f (map op_of ops) m (entire_function f.items tree) 0 (length ops - 1)) (sym alike) is)
