use Rattle.std.proofs.Common.{◌≡◌, ◌-◌, ◌∙◌, List, drop, take, sym, ap, subst}
use Rattle.std.specs.Prelude.{slice_index_or}
use Rattle.cfg_graph.specs.declared.place.Place.{Place}
use Rattle.drop_flags.specs.Spans.{IsNear, nowhere, span_of}
use Rattle.drop_flags.specs.declared.paths.Span.{Span}
use Rattle.drop_flags.proofs.Nearby.{near-is}
use Rattle.drop_flags.proofs.paths.FlagPaths.near.Goals as goal

pub returns : goal.returns
returns c =
    let paths : List Place = c.self.inside.list in
    let spans : List Span = c.self.inside.spans in
    let span : Span = span_of spans c.args.local in
    let span-is : c.span_at-span.result ≡ span =
    c.span_at-span.ensures ∙ ap (λ (z : List Span). slice_index_or z c.args.local nowhere) c.as_slice.ensures in
    let near = near-is paths spans c.self.invariant c.args.local in
    let seen =
    subst (λ (z : List Place). IsNear paths c.args.local span.from (take (span.end - span.from) (drop span.from z)))
    (sym c.as_slice-2.ensures) near in
    subst (λ (s : Span). IsNear c.args.self.now c.args.local s.from
    (take (s.end - s.from) (drop s.from c.as_slice-2.result.now)))
    (sym span-is)
    (subst (λ (z : List Place). IsNear z c.args.local span.from
    (take (span.end - span.from) (drop span.from c.as_slice-2.result.now)))
    c.self.view_is seen)
