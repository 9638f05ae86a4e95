mod PolyOutcomes
