use Rattle.soak_text.proofs.Lines.{put_later}
use Rattle.soak_text.proofs.text.put_function.Goals as goal

pub returns : goal.returns
returns c = put_later _ _ c.args.number c.if-number-eq0.false c.in_ok-write.ensures.bytes
