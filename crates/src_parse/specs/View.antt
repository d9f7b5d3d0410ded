-- What contracts see of the parser's frames.
use Rattle.std.specs.Prelude.{List, map, reverse}
use Rattle.src_tree.specs.Table.{rest_of}
use Rattle.src_tree.specs.View.{parts_in}
use Rattle.src_parse.specs.declared.frame.ParserFrame.{ParserFrame}
use Rattle.src_parse.specs.Counting.{Counted}

abbrev pub frame_of : ParserFrame → Counted
frame_of f = record {
  place = f.place;
  rest = rest_of f.point;
  at = f.at;
  parts = parts_in f.parts;
  deepest = f.deepest;
  floor = f.floor;
  around = f.around;
}

-- the innermost frame is the last of the list
abbrev pub stack_of : List ParserFrame → List Counted
stack_of frames = reverse (map frame_of frames)
