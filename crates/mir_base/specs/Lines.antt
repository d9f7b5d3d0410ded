-- The text of a trace, given the names of bodies and of types. Each line ends by a line feed.
use Rattle.std.specs.Prelude.{ℕ, List, [], ◌∷◌, ◌++◌, codes}
use Rattle.std.specs.Fmt.{decimal, signed_decimal}
use Rattle.mir_base.specs.declared.trace.Why.{Why}
use Rattle.mir_base.specs.declared.trace.Why.TheVariants.{Explicit, Overflow, Divide, Index, Ask, Match}
use Rattle.mir_base.specs.declared.trace.End.{End}
use Rattle.mir_base.specs.declared.trace.Event.{Event}
use Rattle.mir_base.specs.Trace.{Trace}

abbrev pub line : List ℕ → List ℕ
line words = words ++ 10 ∷ []

-- a value, by the name of its type and its serial number
abbrev pub numbered : List ℕ → ℕ → List ℕ
numbered name serial = name ++ codes "#" ++ decimal serial

abbrev pub why_word : Why → List ℕ
why_word Explicit = codes "explicit"
why_word Overflow = codes "overflow"
why_word Divide = codes "divide"
why_word Index = codes "index"
why_word Ask = codes "ask"
why_word Match = codes "match"

module _ (body_name adt_name : ℕ → List ℕ) where
  -- the words of one event
  abbrev pub event_words : Event → List ℕ
  event_words (Event.Call body) = codes "call " ++ body_name body
  event_words (Event.Return body) = codes "return " ++ body_name body
  event_words (Event.Unwind body) = codes "unwind " ++ body_name body
  event_words (Event.Make adt serial) = codes "make " ++ numbered (adt_name adt) serial
  event_words (Event.Boxed serial) = codes "box " ++ numbered [] serial
  event_words (Event.Dropped adt serial) = codes "drop " ++ numbered (adt_name adt) serial
  event_words (Event.Freed serial) = codes "free " ++ numbered [] serial
  event_words (Event.ForgotMade adt serial) = codes "forget " ++ numbered (adt_name adt) serial
  event_words (Event.ForgotBox serial) = codes "forget " ++ numbered [] serial
  event_words (Event.Printed number) = codes "print " ++ signed_decimal number
  event_words (Event.Asked number) = codes "ask " ++ signed_decimal number
  event_words (Event.Panicked why) = codes "panic " ++ why_word why

  abbrev pub event_line : Event → List ℕ
  event_line e = line (event_words e)

  -- the lines of the events, in their order
  abbrev pub event_lines : Trace → List ℕ
  event_lines [] = []
  event_lines (e ∷ es) = event_line e ++ event_lines es

-- the last line of a text
abbrev pub end_words : End → List ℕ
end_words End.Returned = codes "end: returned"
end_words End.Panicked = codes "end: panicked"
end_words End.Aborted = codes "end: aborted"
end_words End.OutOfTicks = codes "end: out of ticks"
end_words (End.Stuck body block) = codes "end: stuck in body " ++ decimal body ++ codes " block " ++ decimal block

abbrev pub end_line : End → List ℕ
end_line end = line (end_words end)

abbrev pub text_of : (body_name adt_name : ℕ → List ℕ) → Trace → End → List ℕ
text_of body_name adt_name trace end = event_lines body_name adt_name trace ++ end_line end
