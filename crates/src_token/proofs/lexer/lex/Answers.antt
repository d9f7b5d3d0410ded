-- The tokens of a text's characters are those of the text.
use Rattle.std.proofs.Common.{◌≡◌, List, ℕ, Result, Ok, Err, ap, ◌∙◌, subst}
use Rattle.std.specs.Prelude.{IfOk, IfErr}
use Rattle.std.specs.Str.{IsUtf8, chars}
use Rattle.src_token.specs.declared.token.LexError.{LexError}
use Rattle.src_token.specs.declared.token.LexError.TheVariants.{BadChar, BadNumber, OpenComment, OpenText, NotUtf8, Memory}
use Rattle.src_token.specs.declared.token.Spanned.{Spanned}
use Rattle.src_token.specs.Tokens.{Tokens, Refused, CutTokens, CutRefused, CutError}
use Rattle.src_token.proofs.lexer.lex.Goals as goal

module _ (bytes cs : List ℕ) (text : IsUtf8 bytes) (same : cs ≡ chars bytes) where
  tokens_of_text : (r : Result (List Spanned) LexError) → IfOk r (λ tokens. CutTokens cs tokens) → IfOk r (λ tokens. Tokens bytes tokens)
  tokens_of_text (Ok tokens) h = (text, subst (λ (w : List ℕ). CutTokens w tokens) same h)
  tokens_of_text (Err e) h = tt

  refused_text : (e : LexError) → CutRefused cs e → Refused bytes e
  refused_text (BadChar at) h = (text, subst (λ (w : List ℕ). CutError w (BadChar at)) same h)
  refused_text (BadNumber at) h = (text, subst (λ (w : List ℕ). CutError w (BadNumber at)) same h)
  refused_text (OpenComment at) h = (text, subst (λ (w : List ℕ). CutError w (OpenComment at)) same h)
  refused_text (OpenText at) h = (text, subst (λ (w : List ℕ). CutError w (OpenText at)) same h)
  refused_text (NotUtf8 at) h = absurd h
  refused_text Memory h = tt

  refusal_of_text : (r : Result (List Spanned) LexError) → IfErr r (λ e. CutRefused cs e) → IfErr r (λ e. Refused bytes e)
  refusal_of_text (Ok tokens) h = tt
  refusal_of_text (Err e) h = refused_text e h

pub returns-clause-tokens : goal.returns-clause-tokens
returns-clause-tokens c =
    tokens_of_text c.args.text.now c.as_slice.result.now c.in-Ok.ensures.cases.1
    (c.as_slice.ensures.value ∙ c.in_ok-characters.ensures.value ∙ ap chars c.in-Ok.ensures.cases.0) c.lex_characters.result c.lex_characters.ensures.tokens

pub returns-clause-refused : goal.returns-clause-refused
returns-clause-refused c =
    refusal_of_text c.args.text.now c.as_slice.result.now c.in-Ok.ensures.cases.1
    (c.as_slice.ensures.value ∙ c.in_ok-characters.ensures.value ∙ ap chars c.in-Ok.ensures.cases.0) c.lex_characters.result c.lex_characters.ensures.refused
