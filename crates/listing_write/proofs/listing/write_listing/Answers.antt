use Rattle.std.proofs.Common.{◌∙◌, ap, subst, sym}
use Rattle.std.specs.Str.{IsUtf8}
use Rattle.std.proofs.lemmas.Str.{IsUtf8-string_bytes}
use Rattle.listing_write.proofs.listing.write_listing.Goals as goal

pub returns-clause-in_utf8 : goal.returns-clause-in_utf8
returns-clause-in_utf8 c =
    subst IsUtf8 (sym (c.from_vec.ensures ∙ ap (λ v. v.items) c.into_bytes.ensures.value))
    (IsUtf8-string_bytes c.put_listing.new.out)
