-- What came before an item, in Rust as the rules of typing see it.
use Rattle.typing_rules.specs.Program as rules
use Rattle.typeck_items.specs.declared.before.Before.{Before}

abbrev pub had : Before → rules.Before
had b = record { methods = b.methods; impls = b.impls }
