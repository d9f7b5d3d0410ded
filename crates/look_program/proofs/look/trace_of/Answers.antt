use Rattle.std.proofs.Common.{◌≡◌, ◌∙◌, Some, None, IfOk, IsErrOf, map, string_bytes, ℕ, List, Global, ap, subst}
use Rattle.mirdrop_program.specs.declared.request.WordsError.{WordsError as an_error}
use Rattle.mirdrop_program.specs.Words.{request_of}
use Rattle.look_program.specs.Words.{run_words}
use Rattle.look_program.proofs.look.trace_of.Goals as goal

pub returns-in-Ok-clause-request : goal.returns-in-Ok-clause-request
returns-in-Ok-clause-request c =
    let same : map (string_bytes {Z = Global}) c.as_slice.result.now ≡ run_words (map (string_bytes {Z = Global}) c.args.words.now) =
    ap (map (string_bytes {Z = Global})) c.as_slice.ensures.value ∙ c.in-Ok.ensures in
    subst (λ (texts : List (List ℕ)). IfOk c.request_of.result (λ request. request_of texts ≡ Some request)) same
    c.request_of.ensures.request

pub returns-in-Ok-clause-refused : goal.returns-in-Ok-clause-refused
returns-in-Ok-clause-refused c =
    let same : map (string_bytes {Z = Global}) c.as_slice.result.now ≡ run_words (map (string_bytes {Z = Global}) c.args.words.now) =
    ap (map (string_bytes {Z = Global})) c.as_slice.ensures.value ∙ c.in-Ok.ensures in
    subst (λ (texts : List (List ℕ)). IsErrOf c.request_of.result an_error.Refused → request_of texts ≡ None) same
    c.request_of.ensures.refused
