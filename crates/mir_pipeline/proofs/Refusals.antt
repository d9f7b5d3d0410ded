-- Each refusal of a layer is one of the text.
use Rattle.std.proofs.Common.{ℕ, List, refl}
use Rattle.src_token.specs.declared.token.Spanned.{Spanned}
use Rattle.src_token.specs.declared.token.LexError.{LexError}
use Rattle.src_token.specs.declared.token.LexError.TheVariants.{BadChar, BadNumber, OpenComment, OpenText, NotUtf8, Memory}
use Rattle.src_token.specs.Tokens.{Tokens, Refused}
use Rattle.src_parse.specs.declared.error.ParseError.{ParseError}
use Rattle.src_parse.specs.declared.error.ParseError.TheVariants.{Syntax, TooDeep, Memory as NoMemory}
use Rattle.src_parse.specs.Answers.{IsRefused as IsBadToken}
use Rattle.mir_pipeline.specs.Trees.{end_place, refusal_of, of_tokens, IsRefused}

pub no_tokens : (text : List ℕ) (e : LexError) → Refused text e → IsRefused text (refusal_of e)
no_tokens text (BadChar at) r = (BadChar at, r, refl)
no_tokens text (BadNumber at) r = (BadNumber at, r, refl)
no_tokens text (OpenComment at) r = (OpenComment at, r, refl)
no_tokens text (OpenText at) r = (OpenText at, r, refl)
no_tokens text (NotUtf8 at) r = (NotUtf8 at, r, refl)
no_tokens text Memory r = tt

pub no_tree : (text : List ℕ) (tokens : List Spanned) (e : ParseError) → Tokens text tokens → IsBadToken tokens (end_place text) e → IsRefused text (of_tokens e)
no_tree text tokens (Syntax at pos) t r = (tokens, Syntax at pos, t, r, refl)
no_tree text tokens (TooDeep at pos) t r = (tokens, TooDeep at pos, t, r, refl)
no_tree text tokens NoMemory t r = tt
