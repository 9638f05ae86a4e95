-- Claims that are loaded one after the other, and jobs that are made of them.
use Rattle.std.proofs.Common.{◌≡◌, ◌+◌, ◌-◌, ◌<◌, ◌≤◌, ◌++◌, ℕ, suc, List, [], ◌∷◌, All, IfErr, IfOk, Option, Result, Ok, Err, length, map, take, drop, get_or, refl, sym, ap, ◌∙◌, subst, inl, inr, arith}
use Rattle.std.specs.List.{AllZip}
use Rattle.std.proofs.Math.Seq.{drop-cons}
use Rattle.std.proofs.lemmas.List.{length-map, map-append, take-append-drop, take_more}
use Rattle.std.proofs.lemmas.Grind.{common_steps}
use Rattle.std.proofs.lemmas.List.Elements.{All-cons, All-map, All-nil, All-push}
use Rattle.zk_model.specs.Files.{VerifierFile}
use Rattle.zk_model.specs.Statement.{Statement}
use Rattle.zk_model.specs.declared.StatementKind.{StatementKind}
use Rattle.zk_model.specs.declared.StatementKind.TheVariants as kinds_of
use Rattle.zk_model.specs.declared.limits.TheConstants.{MAX_STATEMENTS, MAX_UNITS}
use Rattle.zk_port.specs.Changes.{change}
use Rattle.zk_port.specs.Disks.{DiskState}
use Rattle.zk_port.specs.Doors.{DoorState}
use Rattle.zk_port.specs.Files.{Files}
use Rattle.zk_port.specs.Shelves.{ShelfState}
use Rattle.session_core.specs.Jobs.{VerifierJob, VerifierJobs, IsTooLarge, all_jobs, units_of_job, verifier_of}
use Rattle.session_core.specs.declared.verifier_job.TooLarge.{TooLarge}
use Rattle.statement_file.specs.Claims.{NamedClaim}
use Rattle.claim_files.specs.NamedClaims.{AreOfOneKind, Claimed, IsClaimName, IsClaimOf, IsStatementOf, LacksStatement, OfBits, OfElements, kind_named}
use Rattle.claim_files.specs.declared.claim_names.ClaimNames.{ClaimNames}
use Rattle.claim_files.specs.declared.claim_names.ClaimNames.TheVariants as names
use Rattle.claim_files.specs.Services.{Service}
use Rattle.file_commands.specs.Effects.{OnlyLoads, ShelfChange}
use Rattle.file_commands.specs.Journals.{disk_change}
use Rattle.file_commands.specs.Stops.{IsVerifierFileAt}
use Rattle.file_commands.specs.declared.refusal.Refusal.{Refusal}
use Rattle.file_commands.specs.declared.refusal.Refusal.TheVariants as stop
use Rattle.file_commands.proofs.Journals.{untouched}
use Rattle.zk_cli.specs.ServeRuns.{AreServeJobs, FitStop, IsClaimsName, IsFirstTooLarge, IsServeJob, LacksClaim, OpenedJournal, StopsService}
use Rattle.zk_cli.proofs.Pairs.{zip_length, zip_map, zip_push}
use Rattle.zk_cli.proofs.Serving.{loads_claim}

-- a list is what stands before a place, what stands there, and the rest
pub parted : {X : Type 0} (xs : List X) (k : ℕ) (x : X) → k < length xs → x ≡ get_or xs k x → xs ≡ take k xs ++ x ∷ drop (k + 1) xs
parted {X} xs k x within is =
    let at : drop k xs ≡ get_or xs k x ∷ drop (k + 1) xs = grind (arith, drop-cons xs k x) in
    sym (take-append-drop k xs) ∙ ap (λ (rest : List X). take k xs ++ rest) (at ∙ ap (λ (y : X). y ∷ drop (k + 1) xs) (sym is))

-- ---- claims

abbrev HasStatement : Option Files → ClaimNames → Type 0
HasStatement told claim = (statement : Statement) × IsStatementOf told claim statement

pub had_each : (told : Option Files) (names : List ClaimNames) (statements : List Statement) → AllZip (IsStatementOf told) names statements
    → All (λ claim. (statement : Statement) × IsStatementOf told claim statement) names
had_each told [] [] zip = All-nil (HasStatement told)
had_each told [] (statement ∷ statements) zip = absurd zip
had_each told (name ∷ names) [] zip = absurd zip
had_each told (name ∷ names) (statement ∷ statements) zip =
    let first : HasStatement told name = (statement, zip.0) in
    All-cons (HasStatement told) name names first (had_each told names statements zip.1)

-- the claims so far are loaded, with no count that rose
pub record HasLoaded (first now : ShelfState) (names : List ClaimNames) (k : ℕ) (statements : List Statement) : Type 0 where
  pub quiet : now ≡ first
  pub zip : AllZip (IsStatementOf first.told) (take k names) statements

pub one_loaded : (first now after : ShelfState) (names : List ClaimNames) (k : ℕ) (statements more : List Statement) (name : ClaimNames)
    (statement : Statement) → HasLoaded first now names k statements → k < length names → name ≡ get_or names k name
    → IsStatementOf now.told name statement → after ≡ now → more ≡ statements ++ statement ∷ []
    → HasLoaded first after names (k + 1) more
one_loaded first now after names k statements more name statement before within at is same more_are = record {
  quiet = same ∙ before.quiet;
  zip = subst (AllZip (IsStatementOf first.told) (take (k + 1) names)) (sym more_are)
      (subst (λ (ns : List ClaimNames). AllZip (IsStatementOf first.told) ns (statements ++ statement ∷ []))
      (sym (take_more names k name within ∙ ap (λ (n : ClaimNames). take k names ++ n ∷ []) (sym at)))
      (zip_push (IsStatementOf first.told) (take k names) statements name statement before.zip
      (subst (λ (s : ShelfState). IsStatementOf s.told name statement) before.quiet is)));
}

pub lacks_at : (first now after : ShelfState) (names : List ClaimNames) (k : ℕ) (statements : List Statement) (name : ClaimNames) (why : Refusal)
    → HasLoaded first now names k statements → k < length names → name ≡ get_or names k name
    → LacksStatement name (change now after) why → LacksClaim names (change first after) why
lacks_at first now after names k statements name why before within at cause = record {
  before = take k names;
  claim = name;
  behind = drop (k + 1) names;
  are = parted names k name within at;
  had = had_each first.told (take k names) statements before.zip;
  cause = subst (λ (s : ShelfState). LacksStatement name (change s after) why) before.quiet cause;
}

pub loads_at : (first now after : ShelfState) (names : List ClaimNames) (k : ℕ) (statements : List Statement) (name : ClaimNames)
    → HasLoaded first now names k statements → k < length names → name ≡ get_or names k name
    → OnlyLoads (IsClaimName name) (change now after) → OnlyLoads (IsClaimsName names) (change first after)
loads_at first now after names k statements name before within at loads =
    loads_claim names name (change first after) (k, within, sym at)
    (subst (λ (s : ShelfState). OnlyLoads (IsClaimName name) (change s after)) before.quiet loads)

-- ---- jobs

pub first_too_large : (f : Statement → VerifierJob) (statements : List Statement) (k : ℕ) (statement : Statement) (found : TooLarge)
    → k < length statements → statement ≡ get_or statements k statement
    → All (λ job. units_of_job job ≤ MAX_UNITS) (map f (take k statements)) → IsTooLarge (f statement) found
    → IsFirstTooLarge (map f statements) found
first_too_large f statements k statement found within at few large = record {
  before = map f (take k statements);
  job = f statement;
  behind = map f (drop (k + 1) statements);
  are = ap (map f) (parted statements k statement within at) ∙ map-append f (take k statements) (statement ∷ drop (k + 1) statements);
  few = few;
  large = large;
}

-- one job more
pub one_fits : (f : Statement → VerifierJob) (statements : List Statement) (k : ℕ) (statement : Statement) (jobs : List VerifierJob) (job : VerifierJob)
    (more : List VerifierJob) → k < length statements → statement ≡ get_or statements k statement → jobs ≡ map f (take k statements)
    → All (λ job. units_of_job job ≤ MAX_UNITS) jobs → job ≡ f statement → units_of_job job ≤ MAX_UNITS → more ≡ jobs ++ job ∷ []
    → (more ≡ map f (take (k + 1) statements)) × All (λ job. units_of_job job ≤ MAX_UNITS) more
one_fits f statements k statement jobs job more within at are few fits small more_are =
    let front : take (k + 1) statements ≡ take k statements ++ statement ∷ [] =
    take_more statements k statement within ∙ ap (λ (s : Statement). take k statements ++ s ∷ []) (sym at) in (
      more_are ∙ ap (λ (js : List VerifierJob). js ++ job ∷ []) are ∙ ap (λ (j : VerifierJob). map f (take k statements) ++ j ∷ []) fits
          ∙ sym (ap (map f) front ∙ map-append f (take k statements) (statement ∷ [])),
      subst (All (λ job. units_of_job job ≤ MAX_UNITS)) (sym more_are) (All-push (λ job. units_of_job job ≤ MAX_UNITS) jobs job few small),
    )

-- ---- what is served of them

-- memory may be missing at any claim
pub memory_lacks : (claim : ClaimNames) (shelf : ShelfChange) → LacksStatement claim shelf stop.NoMemory
memory_lacks (names.Boolean claim) shelf = tt
memory_lacks (names.Arithmetic claim) shelf = inl tt

-- as at the first
first_lacks : (claims : List ClaimNames) (shelf : ShelfChange) → 1 ≤ length claims → LacksClaim claims shelf stop.NoMemory
first_lacks [] shelf some = absurd (omega (arith, some))
first_lacks (claim ∷ claims) shelf some =
    record { before = []; claim = claim; behind = claims; are = refl; had = All-nil (HasStatement shelf.old.told); cause = memory_lacks claim shelf }

pub lacks_memory : (journal : OpenedJournal) (service : Service) (shelf : ShelfChange) (disk : DiskState) (door : DoorState) → 1 ≤ length service.claims
    → StopsService journal service shelf (disk_change disk disk) (change door door) stop.NoMemory
lacks_memory journal service shelf disk door some = inl (inl (first_lacks service.claims shelf some), untouched disk, refl)

-- the job about a statement, over the file
abbrev pub job_over : Service → VerifierFile → Statement → VerifierJob
job_over service file = λ statement. verifier_of statement file service.options.section

-- one claim is of one kind
pub one_kind : (claim : ClaimNames) → AreOfOneKind (claim ∷ [])
one_kind claim =
    let IsOfKind : ClaimNames → Type 0 = λ other. kind_named other ≡ kind_named claim in
    (kind_named claim, All-cons IsOfKind claim [] refl (All-nil IsOfKind))

-- and so are those about Boolean circuits
pub boolean_kind : (claims : List NamedClaim) → AreOfOneKind (map names.Boolean claims)
boolean_kind claims =
    let IsOfKind : ClaimNames → Type 0 = λ claim. kind_named claim ≡ kinds_of.Boolean in
    (kinds_of.Boolean, All-map IsOfKind names.Boolean claims (λ k d within. refl))

-- a claim's statement is of its kind
statement_kind : (told : Option Files) (claim : ClaimNames) (claimed : Claimed) (statement : Statement) → IsClaimOf told claim claimed statement
    → statement.kind ≡ kind_named claim
statement_kind told (names.Boolean claim) (OfBits circuit public outputs) statement is = ap (λ (s : Statement). s.kind) is.2.statement_is
statement_kind told (names.Arithmetic claim) (OfElements circuit outputs) statement is = ap (λ (s : Statement). s.kind) is.statement_is
statement_kind told (names.Boolean claim) (OfElements circuit outputs) statement is = absurd is
statement_kind told (names.Arithmetic claim) (OfBits circuit public outputs) statement is = absurd is

kinds : (told : Option Files) (kind : StatementKind) (claims : List ClaimNames) (statements : List Statement) → AllZip (IsStatementOf told) claims statements
    → All (λ claim. kind_named claim ≡ kind) claims → All (λ statement. statement.kind ≡ kind) statements
kinds told kind [] [] zip same = All-nil (λ (s : Statement). s.kind ≡ kind)
kinds told kind [] (statement ∷ statements) zip same = absurd zip
kinds told kind (claim ∷ claims) [] zip same = absurd zip
kinds told kind (claim ∷ claims) (statement ∷ statements) zip same =
    All-cons (λ (s : Statement). s.kind ≡ kind) statement statements
    (statement_kind told claim zip.0.0 statement zip.0.1 ∙ same 0 claim (omega arith))
    (kinds told kind claims statements zip.1 (λ k d within. same (suc k) d (omega (arith, within))))

-- jobs about the statements of the claims are those that are asked for
pub are_jobs : (told : Option Files) (service : Service) (file : VerifierFile) (statements : List Statement) (jobs : VerifierJobs)
    → IsVerifierFileAt told service.file file → AllZip (IsStatementOf told) service.claims statements → length service.claims ≤ MAX_STATEMENTS
    → AreOfOneKind service.claims → all_jobs jobs ≡ map (job_over service file) statements → AreServeJobs told service jobs
are_jobs told service file statements jobs at zip few one are =
    let IsPair : ClaimNames → VerifierJob → Type 0 = λ claim job. (claimed : Claimed) × IsServeJob told service claim claimed job in
    let IsOver : VerifierJob → Type 0 = λ job. job.task.file ≡ file in
    let all : All IsOver (all_jobs jobs) =
    subst (All IsOver) (sym are) (All-map IsOver (job_over service file) statements (λ k d within. refl)) in
    let IsKind : VerifierJob → Type 0 = λ job. job.task.statement.kind ≡ one.0 in
    let same_kind : All IsKind (all_jobs jobs) =
    subst (All IsKind) (sym are) (All-map IsKind (job_over service file) statements (kinds told one.0 service.claims statements zip one.1)) in
    let size : length (all_jobs jobs) ≡ length service.claims =
    ap length are ∙ length-map statements (job_over service file) ∙ sym (zip_length (IsStatementOf told) service.claims statements zip) in
    record {
      each = subst (AllZip IsPair service.claims) (sym are)
          (zip_map (IsStatementOf told) IsPair (job_over service file)
          (λ claim statement is. (is.0, record { claim = is.1; file = at; section = refl })) service.claims statements zip);
      are = record {
        one_file = λ k d within. all (suc k) d (omega (arith, within)) ∙ sym (all 0 d (omega arith));
        one_kind = λ k d within. same_kind (suc k) d (omega (arith, within)) ∙ sym (same_kind 0 d (omega arith));
        few = omega (arith, size, few);
      };
    }

-- the first of jobs and the others are all of them
pub parted_jobs : (jobs : List VerifierJob) (first : VerifierJob) → 1 ≤ length jobs → first ≡ get_or jobs 0 first
    → first ∷ take (length jobs - 1) (drop 1 jobs) ≡ jobs
parted_jobs [] first some is = absurd (omega (arith, some))
parted_jobs (job ∷ jobs) first some is = grind (arith, common_steps, is)

some_jobs : (jobs : List VerifierJob) → 1 ≤ length jobs → (made : VerifierJobs) × (all_jobs made ≡ jobs)
some_jobs [] some = absurd (omega (arith, some))
some_jobs (job ∷ jobs) some = (record { first = job; others = jobs }, refl)

-- where jobs are not made, nothing is served
pub lacks_jobs : (journal : OpenedJournal) (service : Service) (shelf : ShelfChange) (disk : DiskState) (door : DoorState) (file : VerifierFile) (statements : List Statement)
    → IsVerifierFileAt shelf.old.told service.file file → AllZip (IsStatementOf shelf.old.told) service.claims statements
    → 1 ≤ length service.claims → length service.claims ≤ MAX_STATEMENTS → AreOfOneKind service.claims → (why : Refusal)
    → FitStop (map (job_over service file) statements) why → StopsService journal service shelf (disk_change disk disk) (change door door) why
lacks_jobs journal service shelf disk door file statements at zip some few one (stop.TooLarge need units) cause =
    let size = length-map statements (job_over service file) in
    let same = zip_length (IsStatementOf shelf.old.told) service.claims statements zip in
    let made = some_jobs (map (job_over service file) statements) (omega (arith, size, same, some)) in
    inr (
      made.0,
      are_jobs shelf.old.told service file statements made.0 at zip few one made.1,
      (
        subst (λ (jobs : List VerifierJob). IsFirstTooLarge jobs (record { need = need; units = units })) (sym made.1) cause,
        untouched disk,
        refl,
      ),
    )
lacks_jobs journal service shelf disk door file statements at zip some few one stop.NoMemory cause = lacks_memory journal service shelf disk door some
lacks_jobs journal service shelf disk door file statements at zip some few one other cause = absurd cause

-- what follows of the value of a result, and of its fault
pub ok_then : {T E : Type 0} (P Q : T → Type 0) (result : Result T E) → ((value : T) → P value → Q value) → IfOk result P → IfOk result Q
ok_then P Q (Ok value) then holds = then value holds
ok_then P Q (Err e) then holds = tt

pub err_then : {T E : Type 0} (P Q : E → Type 0) (result : Result T E) → ((fault : E) → P fault → Q fault) → IfErr result P → IfErr result Q
err_then P Q (Ok value) then holds = tt
err_then P Q (Err e) then holds = then e holds
