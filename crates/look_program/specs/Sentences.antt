-- What is wrong with a text that is refused, in a sentence.
use Rattle.std.specs.Prelude.{ℕ, ◌==◌, List, [], codes, if◌then◌else◌}
use Rattle.mir_base.specs.declared.rule.Rule.{Rule}
use Rattle.mir_pipeline.specs.declared.refusal.Refusal.{Refusal}
use Rattle.mir_pipeline.specs.declared.refusal.Refusal.TheVariants as refusal
use Rattle.mir_text.specs.declared.error.ListingError.{ListingError}

-- bytes that have no tokens, by the code of the reason
abbrev pub of_bytes : ℕ → List ℕ
of_bytes code =
    if code == 1 then codes "the character begins no token"
    else (if code == 2 then codes "the number is above 18446744073709551615, or its suffix is no integer type"
    else (if code == 3 then codes "the comment has no end"
    else (if code == 4 then codes "the text between quotes has no end" else codes "the bytes are not UTF-8")))

-- a rule that is broken
abbrev pub of_rule : Rule → List ℕ
of_rule Rule.T01 = codes "the name means nothing here, or there is no `main`"
of_rule Rule.T02 = codes "two things of one kind have one name, or one has the name of something built in"
of_rule Rule.T03 = codes "the type is not the one that is expected here"
of_rule Rule.T04 = codes "there are too few or too many arguments, fields or parts"
of_rule Rule.T05 = codes "what is assigned to is no variable, field, element or `*e`"
of_rule Rule.T06 = codes "the jump leaves no loop of its body, or carries a value out of a `while`"
of_rule Rule.T07 = codes "what is not Copy is moved out of where it must stay"
of_rule Rule.T08 = codes "a reference stands where none may, or what `&` names is changed through it"
of_rule Rule.T09 = codes "the type holds itself without a box, so it has no size"
of_rule Rule.T10 = codes "`Copy` is derived without `Clone`, beside a `Drop` impl, or with a part that is not Copy"
of_rule Rule.T11 = codes "the impl does not have exactly the methods of its trait, or it is the second for its type"
of_rule Rule.T12 = codes "the type has no field or method of that name"
of_rule Rule.T13 = codes "this cannot be called, or a function stands as a value"
of_rule Rule.T14 = codes "two places overlap of which one is borrowed by `&mut` or changed meanwhile"
of_rule Rule.T15 = codes "a `Drop` body replaces its `self`, so it would never end"
of_rule Rule.T16 = codes "nothing tells the type"
of_rule Rule.T17 = codes "the number is outside its type"
of_rule Rule.T18 = codes "the pattern cannot stand here"
of_rule Rule.T19 = codes "more than 2048 nodes in a body, 32 fields, 64 variants, 32 elements or 12 parts of a tuple"
of_rule Rule.T20 = codes "this form is not in the language yet"

abbrev pub of_refusal : Refusal → List ℕ
of_refusal (refusal.Lex code at) = of_bytes code
of_refusal (refusal.Syntax at pos) = codes "a program can begin with the text before this place, but not go on so"
of_refusal (refusal.TooDeep at pos) =
    codes "brackets, operators, blocks or types stand in one another more than 64 levels deep"
of_refusal (refusal.Broken rule at) = of_rule rule
of_refusal (refusal.U1 bad site) = codes "this place, or a part of it, is gone here by the choices above"
of_refusal (refusal.U2 bad site) = codes "what this place is a part of is gone here by the choices above"
of_refusal refusal.Memory = []

-- a graph that is not well formed, by the number of its fault
abbrev pub of_fault : ℕ → List ℕ
of_fault number =
    if number == 1 then codes "a block, body, type or other item does not exist, or `main` does not"
    else (if number == 2 then codes "a local does not exist"
    else (if number == 3 then codes "something does not have its type"
    else (if number == 4 then codes "an edge to a block that is no turn block does not lower the rank"
    else (if number == 5 then codes "a cleanup block is entered otherwise than by unwinding, or leaves by something else"
    else (if number == 6 then codes "a box is coerced to a trait of which its content's type has no impl"
    else codes "a name does not stand in a listing, or stands twice")))))

abbrev pub of_error : ListingError → List ℕ
of_error (ListingError.BadListing n) = codes "the line is not written exactly as `raw` writes it"
of_error (ListingError.BadGraph fault n) = of_fault fault.number
of_error ListingError.Memory = []
