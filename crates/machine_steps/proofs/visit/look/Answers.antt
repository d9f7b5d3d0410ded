use Rattle.std.proofs.Common.{refl, ap, sym, ◌∙◌, option_map}
use Rattle.machine_store.specs.Standing.{located_of}
use Rattle.machine_steps.proofs.visit.look.Goals as goal

pub returns : goal.returns
returns c = record {
  own = c.own_drop-own.ensures;
  finds = record {
    s = located_of c.in-Some.s;
    is = sym c.in_ok-s.ensures ∙ ap (option_map located_of) c.in-Some.is;
    dynamic_is = refl;
    shows = c.kind_of-kind.ensures;
  };
  swept = c.in_ok-pass.ensures;
}
