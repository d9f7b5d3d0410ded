-- A bad use of the graph of a program is a refused use of the source: the free run with the same choices meets it.
use Rattle.std.proofs.Common.{◌≡◌, ◌∙◌, List, Bool, true, Option, Some, None, ap, sym, subst, refl}
use Rattle.std.specs.Prelude.{option_map, slice_get, is_some}
use Rattle.std.proofs.lemmas.Bool.{false≢true}
use Rattle.std.proofs.lemmas.Option.{none-some, same_Some, slice_get-map}
use Rattle.move_errors.specs.Reaches.{Reaches, MeetsNone, IsLeast}
use Rattle.lower_rules.specs.Laws.{AllNameTheirLoops}
use Rattle.lower_rules.specs.Lower.{body_of, node_of}
use Rattle.cfg_graph.specs.declared.graph.Body.{Body}
use Rattle.cfg_graph.specs.declared.graph.Graph.{Graph}
use Rattle.cfg_graph.specs.Moves.BadUses.{UseRule}
use Rattle.cfg_build.specs.declared.programs.Lowered.{Lowered}
use Rattle.lower_laws.specs.Meets.{site_of}
use Rattle.lower_laws.specs.Refused.{MeetsExactly, ruled_by}
use Rattle.move_errors.specs.Refusal.{named_use}
use Rattle.move_errors.specs.declared.errors.BadUse.{BadUse}
use Rattle.src_meaning.specs.Programs.{IsAccepted, reached_by}
use Rattle.typed_tree.specs.Tree.{BodyTree, ProgramTree}
use Rattle.lower_rules.specs.declared.site.Site.{Site}
use Rattle.mir_pipeline.proofs.Sited.{ToldAt, told_at}
use Rattle.mir_pipeline.specs.Graphs.{IsBadAt, IsFirstBad, IsGraphOf, IsRefusedAs, IsRefusedInSource}

module _ (program : ProgramTree) (lowered : Lowered) (g : IsGraphOf program lowered) (rule : UseRule) (bad : BadUse) (first : IsFirstBad lowered.graph rule bad) (site : Site) (told : ToldAt program bad site) where
  same_items : lowered.graph.items ≡ program.items
  same_items = ap (λ (graph : Graph). graph.items) g.graph

  -- its body is that of a body of the source
  refused_in : IsRefusedInSource program rule bad site
  refused_in =
      let own = g.paths bad.body told.tree told.there in
      with_body (subst (λ (body : Body). MeetsExactly program.items told.tree body) (same_Some own.0 first.body (sym own.1.0 ∙ first.there)) own.1.1)
    where
      shorter : (tree : BodyTree) → MeetsExactly program.items tree first.body → (other : List Bool) (o : Option _) → reached_by program.items tree other ≡ o → is_some o ≡ true → IsLeast first.refused.given other
      shorter tree meets other None e is = absurd (false≢true is)
      shorter tree meets other (Some at) e is =
          let it = meets.reached other at e in
          first.refused.least it.0 other it.1 (subst (λ items. Reaches items first.body it.0 other it.1) (sym same_items) it.2)

      met : {tree : BodyTree} → MeetsExactly program.items tree first.body →
          (reached_by program.items tree first.refused.given ≡ Some (site_of (node_of program.items tree) (named_use rule bad).action))
          × (ruled_by program.items tree first.refused.given ≡ Some rule)
      met meets =
          meets.refused bad.path first.refused.given (named_use rule bad)
          (subst (λ items. Reaches items first.body bad.path first.refused.given (named_use rule bad)) same_items first.refused.reaches)

      with_body : MeetsExactly program.items told.tree first.body → IsRefusedInSource program rule bad site
      with_body meets = record {
        tree = told.tree;
        there = told.there;
        given = first.refused.given;
        answers = first.refused.answers;
        refused = (met meets).0;
        ruled = (met meets).1;
        node = told.node;
        found = told.found;
        at = told.at;
        least = λ other is. shorter told.tree meets other (reached_by program.items told.tree other) refl is;
        first = λ n earlier list less at.
            let own = g.paths n earlier at in
            own.1.1.exact.0 (subst (λ items. MeetsNone items own.0) same_items (first.first n own.0 less own.1.0)) list;
      }

no_acceptance : (program : ProgramTree) (rule : UseRule) (bad : BadUse) (site : Site) → IsRefusedInSource program rule bad site → IsAccepted program → ⊥
no_acceptance program rule bad site r accepted = none-some _ (sym (accepted bad.body r.tree r.given r.there) ∙ r.refused)

pub refused_as : (program : ProgramTree) → AllNameTheirLoops program → (lowered : Lowered) → IsGraphOf program lowered → (rule : UseRule) (bad : BadUse) (site : Site) →
    IsBadAt lowered rule bad site → IsRefusedAs program lowered rule bad site
refused_as program named lowered g rule bad site at =
    let told = told_at program named lowered g.graph g.sites rule bad at.is_bad site at.told in
    let source = refused_in program lowered g rule bad at.is_bad site told in record {
      lowered_is = g;
      refused = at;
      source = source;
      not_accepted = no_acceptance program rule bad site source;
    }
