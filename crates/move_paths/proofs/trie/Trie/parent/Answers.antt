use Rattle.std.proofs.Common.{◌<◌, Some, ap, subst, sym, ◌∙◌, arith}
use Rattle.std.specs.Option.{option_copied}
use Rattle.std.proofs.lemmas.Option.{slice_get-get_or}
use Rattle.store_model.specs.Places.Place.{whole_local}
use Rattle.cfg_graph.specs.Places.{named_step}
use Rattle.move_paths.specs.Forest.{path_at}
use Rattle.move_paths.proofs.trie.Trie.parent.Goals as goal

pub returns : goal.returns
returns c =
    let paths = c.args.self.now in
    let is = c.in_ok-part.ensures in
    record {
      earlier = is.0;
      place = path_at paths c.in_ok-part.part.now.of;
      step = named_step c.in_ok-part.part.now.step;
      above = slice_get-get_or paths c.in_ok-part.part.now.of (whole_local 0) (let less = is.0 in let within = c.requires in omega (less, within, arith));
      here = is.1;
    }
