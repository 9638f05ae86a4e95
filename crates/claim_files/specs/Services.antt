-- What is served: where, over which file, and about which claims.
use Rattle.std.specs.Prelude.{ℕ, List, [], ◌∷◌, map, None}
use Rattle.zk_model.specs.declared.limits.TheConstants.{MAX_SECTION_LENGTH}
use Rattle.command_words.specs.BitWords.{Bits}
use Rattle.command_words.specs.Words.{ServeArithAsk, ServeAsk, ServeManyAsk, ServeNodeAsk, ServeOptions, serve_options}
use Rattle.statement_file.specs.Claims.{NamedClaim, named_claim}
use Rattle.claim_files.specs.NamedElements.{named_elements}
use Rattle.claim_files.specs.declared.claim_names.ClaimNames.{ClaimNames}
use Rattle.claim_files.specs.declared.claim_names.ClaimNames.TheVariants as names

-- where provers connect, the verifier's file, the claims, each known by its number, and the options
pub record Service : Type 0 where
  pub address : List ℕ
  pub file : List ℕ
  pub claims : List ClaimNames
  pub options : ServeOptions

abbrev pub service : List ℕ → List ℕ → List ClaimNames → ServeOptions → Service
service address file claims options = record { address = address; file = file; claims = claims; options = options }

-- of the one claim that words name, whose bits are known
abbrev pub claim_asked : ServeAsk Bits → ClaimNames
claim_asked ask = names.Boolean (named_claim ask.circuit ask.public ask.outputs)

abbrev pub service_asked : ServeAsk Bits → Service
service_asked ask = service ask.address ask.file (claim_asked ask ∷ []) ask.options

-- of that about an arithmetic circuit
abbrev pub claim_of_arith : ServeArithAsk → ClaimNames
claim_of_arith ask = names.Arithmetic (named_elements ask.circuit ask.outputs)

abbrev pub service_of_arith : ServeArithAsk → Service
service_of_arith ask = service ask.address ask.file (claim_of_arith ask ∷ []) ask.options

-- and of these claims, which a file of statements names
abbrev pub service_of_many : ServeManyAsk → List NamedClaim → Service
service_of_many ask claims = service ask.address ask.file (map names.Boolean claims) ask.options

-- and of the one claim of a node, which has no public bits: by one worker, in sections of the greatest length, with no logs
abbrev pub claim_of_node : ServeNodeAsk Bits → ClaimNames
claim_of_node ask = names.Boolean (named_claim ask.circuit [] ask.outputs)

abbrev pub service_of_node : ServeNodeAsk Bits → Service
service_of_node ask = service ask.address ask.file (claim_of_node ask ∷ [])
    (serve_options ask.sessions 1 MAX_SECTION_LENGTH ask.timeout None ask.follow)
