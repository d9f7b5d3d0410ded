-- The lines of a refusal.
use Rattle.std.specs.Prelude.{ℕ, List, [], ◌++◌, ⊤, codes}
use Rattle.mir_text.specs.declared.error.ListingError.{ListingError}
use Rattle.mir_pipeline.specs.declared.refusal.Refusal.{Refusal}
use Rattle.mir_pipeline.specs.declared.refusal.Refusal.TheVariants as refusal
use Rattle.mirdrop_program.specs.Lines.{graph_line, lex_words, listing_line, refused_at, rule_words, store_line, use_line, way_lines}

abbrev pub refusal_lines : Refusal → List ℕ
refusal_lines (refusal.Lex code at) = refused_at (lex_words code) at
refusal_lines (refusal.Syntax at pos) = refused_at (codes "6 Syntax") pos
refusal_lines (refusal.TooDeep at pos) = refused_at (codes "7 TooDeep") pos
refusal_lines (refusal.Broken rule at) = refused_at (rule_words rule) at
refusal_lines (refusal.U1 bad site) = use_line site.name site.by site.at ++ way_lines bad.answers bad.body bad.path
refusal_lines (refusal.U2 bad site) = store_line site.name site.at ++ way_lines bad.answers bad.body bad.path
refusal_lines refusal.Memory = []

-- a refusal that has lines; want of memory has none
abbrev pub IsTold : Refusal → Type 0
IsTold refusal.Memory = ⊥
IsTold other = ⊤

-- a listing that is refused
abbrev pub error_line : ListingError → List ℕ
error_line (ListingError.BadListing line) = listing_line line
error_line (ListingError.BadGraph fault line) = graph_line fault.number line
error_line ListingError.Memory = []

abbrev pub IsToldError : ListingError → Type 0
IsToldError ListingError.Memory = ⊥
IsToldError other = ⊤
