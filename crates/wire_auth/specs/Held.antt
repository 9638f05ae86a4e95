-- The correlations of a session.
use Rattle.std.specs.Prelude.{List}
use Rattle.wire_auth.specs.declared.correlations.Correlations.{Correlations}
use Rattle.wire_auth.specs.declared.correlations.Correlations.TheVariants.{Dealt, Made}

-- the correlations, in order
abbrev pub items_in : {A : Type 0} → Correlations A → List A
items_in (Dealt items) = items.now
items_in (Made items) = items.items
