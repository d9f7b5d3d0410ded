use Rattle.std.proofs.Common.{rules, ℕ, ◌≡◌, ◌∷◌, ◌<◌, ◌-◌, length, ap, sym, ◌∙◌, get_or}
use Rattle.lower_code.specs.View.{entry_of, keys_seen}
use Rattle.src_meaning.specs.Scopes.{without_keys}
use Rattle.lower_passes.specs.Scoped.{held}
use Rattle.lower_passes.proofs.Keyed.{one_stripped}
use Rattle.lower_passes.proofs.entries.strip_entries.Goals as goal

pub loop-left-preserved : goal.loop-left-preserved
loop-left-preserved c =
    let i : ℕ = c.loop-left.left - 1 in
    let less : i < length c.args.keys.now = search rules in
    let same : (get_or c.args.keys.now i c.in-Youngest.entry.key).0 ≡ c.in-Youngest.entry.key.0 = search rules in
    let was : held c.loop-left.rest ≡ entry_of c.in-Youngest.entry ∷ held c.in-Youngest.older.now = ap held c.in-Youngest.is in (
      one_stripped c.args.keys.now i c.in-Youngest.entry.key c.in-Youngest.entry (held c.in-Youngest.older.now)
          (without_keys (keys_seen c.args.keys.now) (held c.args.entries)) less same (sym (ap (without_keys (keys_seen c.args.keys.now)) was) ∙ c.loop-left.invariant.0),
      search rules,
    )
