-- One store after another.
use Rattle.std.proofs.Common.{◌≡◌, ◌⊎◌, ◌++◌, ℕ, suc, List, [], ◌∷◌, take, Bool, IsFalse, Result, Ok, Err, IfErr, OnOk, OnErr, Option, None, Some, refl, ap, sym, ◌∙◌, subst, inl, inr, arith}
use Rattle.std.specs.Option.{option_map}
use Rattle.zk_model.specs.Files as model
use Rattle.zk_port.specs.Changes.{change}
use Rattle.zk_port.specs.Counts.{Rose, CountsNames}
use Rattle.zk_port.specs.Files.{Files, stored}
use Rattle.zk_port.specs.Files as port
use Rattle.zk_port.specs.Shelves.{ShelfState}
use Rattle.file_commands.specs.Effects.{CountsStay, NameFailed, OtherNamesStay, OnlyStores}
use Rattle.file_commands.specs.DealRuns.{StopsStoring, IsDealName, all_stored, next_name, ending, content}
use Rattle.file_commands.specs.declared.deal_command.Stored.{Stored}
use Rattle.file_commands.specs.declared.refusal.Refusal.{Refusal}
use Rattle.file_commands.specs.declared.refusal.Refusal.TheVariants.{ShelfFailed, NoMemory}
use Rattle.file_commands.proofs.Asking.{asks_one, asks_both, asks_nothing}

-- ---- stops

-- what is stored in this file, under its name
abbrev pub store_of : List ℕ → model.ProverFile → model.VerifierFile → Stored → List ℕ × List ℕ
store_of name prover verifier file = (name ++ ending file, content file prover verifier)

-- a store under this name stops
abbrev pub StopsAt : List ℕ → Refusal → ShelfState → ShelfState → Type 0
StopsAt name stop a b = (stop ≡ NoMemory) ⊎ ((stop ≡ ShelfFailed) × NameFailed name (change a b))

-- a store that stops is the first of some that do
pub stops_first : (one : List ℕ × List ℕ) (more : List (List ℕ × List ℕ)) (stop : Refusal) (a b : ShelfState)
    → port.OthersStay one.0 a.told b.told → StopsAt one.0 stop a b → StopsStoring (one ∷ more) (change a b) stop
stops_first one more stop a b others cause = record {
  done = 0;
  some = omega arith;
  others = subst (λ (told : Option Files). port.OthersStay one.0 told b.told) (nothing_stored a.told) others;
  cause = cause;
}
  where
    nothing_stored : (told : Option Files) → told ≡ option_map (all_stored []) told
    nothing_stored None = refl
    nothing_stored (Some files) = refl

-- stores that stop after one that is done
pub stops_behind : (one : List ℕ × List ℕ) (more : List (List ℕ × List ℕ)) (stop : Refusal) (a b c : ShelfState)
    → b.told ≡ option_map (stored one.0 one.1) a.told → CountsStay (change a b)
    → StopsStoring more (change b c) stop → StopsStoring (one ∷ more) (change a c) stop
stops_behind one more stop a b c is quiet behind = record {
  done = suc behind.done;
  some = let few = behind.some in omega (arith, few);
  others = subst (λ (told : Option Files). port.OthersStay (next_name behind.done more) told c.told) (stored_before a.told b.told is) behind.others;
  cause = elim behind.cause [
    | inl memory ↦ inl memory
    | inr failed ↦ inr (failed.0, subst (λ n. Rose n (c.faults_of (next_name behind.done more))) (quiet.each (next_name behind.done more)) failed.1)
  ];
}
  where
    stored_before : (old mid : Option Files) → mid ≡ option_map (stored one.0 one.1) old
        → option_map (all_stored (take behind.done more)) mid ≡ option_map (all_stored (take (suc behind.done) (one ∷ more))) old
    stored_before old mid same = ap (option_map (all_stored (take behind.done more))) same ∙ both old
      where
        both : (told : Option Files) → option_map (all_stored (take behind.done more)) (option_map (stored one.0 one.1) told)
            ≡ option_map (all_stored (take (suc behind.done) (one ∷ more))) told
        both None = refl
        both (Some files) = refl

-- the same after a second that is done, and after a third
pub stops_behind_two : (one two : List ℕ × List ℕ) (more : List (List ℕ × List ℕ)) (stop : Refusal) (a b c d : ShelfState)
    → b.told ≡ option_map (stored one.0 one.1) a.told → CountsStay (change a b)
    → c.told ≡ option_map (stored two.0 two.1) b.told → CountsStay (change b c)
    → StopsStoring more (change c d) stop → StopsStoring (one ∷ two ∷ more) (change a d) stop
stops_behind_two one two more stop a b c d first quiet second still behind =
    stops_behind one (two ∷ more) stop a b d first quiet (stops_behind two more stop b c d second still behind)

pub stops_last : {T : Type 0} (result : Result T Refusal) (one two three four : List ℕ × List ℕ) (a b c d e : ShelfState)
    → b.told ≡ option_map (stored one.0 one.1) a.told → CountsStay (change a b)
    → c.told ≡ option_map (stored two.0 two.1) b.told → CountsStay (change b c)
    → d.told ≡ option_map (stored three.0 three.1) c.told → CountsStay (change c d)
    → OnErr result (port.OthersStay four.0 d.told e.told) → IfErr result (λ stop. StopsAt four.0 stop d e)
    → IfErr result (StopsStoring (one ∷ two ∷ three ∷ four ∷ []) (change a e))
stops_last (Ok done) one two three four a b c d e first quiet second still third calm others at = tt
stops_last (Err stop) one two three four a b c d e first quiet second still third calm others at =
    stops_behind_two one two (three ∷ four ∷ []) stop a b c e first quiet second still
    (stops_behind three (four ∷ []) stop c d e third calm (stops_first four [] stop d e others at))

-- all four are done
pub stored_all : {T : Type 0} (result : Result T Refusal) (one two three four : List ℕ × List ℕ) (a b c d e : Option Files)
    → b ≡ option_map (stored one.0 one.1) a → c ≡ option_map (stored two.0 two.1) b → d ≡ option_map (stored three.0 three.1) c
    → OnOk result (e ≡ option_map (stored four.0 four.1) d)
    → OnOk result (e ≡ option_map (all_stored (one ∷ two ∷ three ∷ four ∷ [])) a)
stored_all (Err stop) one two three four a b c d e first second third last = tt
stored_all (Ok value) one two three four a b c d e first second third last =
    last ∙ ap (option_map (stored four.0 four.1)) (third ∙ ap (option_map (stored three.0 three.1))
    (second ∙ ap (option_map (stored two.0 two.1)) first)) ∙ all a
  where
    all : (told : Option Files) → option_map (stored four.0 four.1) (option_map (stored three.0 three.1)
        (option_map (stored two.0 two.1) (option_map (stored one.0 one.1) told)))
        ≡ option_map (all_stored (one ∷ two ∷ three ∷ four ∷ [])) told
    all None = refl
    all (Some files) = refl

-- ---- what is touched

others_stay : (IsNamed : List ℕ → Type 0) (a b c : Option Files) → OtherNamesStay IsNamed a b → OtherNamesStay IsNamed b c → OtherNamesStay IsNamed a c
others_stay IsNamed None None c one two = two
others_stay IsNamed None (Some files) c one two = cc
others_stay IsNamed (Some files) None c one two = absurd one
others_stay IsNamed (Some files) (Some more) None one two = absurd two
others_stay IsNamed (Some files) (Some more) (Some most) one two = λ other not. two other not ∙ one other not

pub only_stores : (IsNamed : List ℕ → Type 0) (a b c : ShelfState) → OnlyStores IsNamed (change a b) → OnlyStores IsNamed (change b c)
    → OnlyStores IsNamed (change a c)
only_stores IsNamed a b c one two = record {
  others = others_stay IsNamed a.told b.told c.told one.others two.others;
  asked = asks_both IsNamed a b c one.asked two.asked;
}

-- nothing is touched
pub stores_nothing : (IsNamed : List ℕ → Type 0) (a : ShelfState) → OnlyStores IsNamed (change a a)
stores_nothing IsNamed a = record {
  others = same a.told;
  asked = asks_nothing IsNamed a;
}
  where
    same : (told : Option Files) → OtherNamesStay IsNamed told told
    same None = refl
    same (Some files) = λ other not. refl

-- ---- one store

-- a store that is refused under one of these names
pub refused_of : (IsNamed : List ℕ → Type 0) (whole : List ℕ) (failed : Bool) (a b : ShelfState) → IsNamed whole
    → port.OthersStay whole a.told b.told → CountsNames failed whole a.faults_of b.faults_of
    → (IsFalse failed → b.faults ≡ a.faults) → OnlyStores IsNamed (change a b)
refused_of IsNamed whole failed a b is others counts quiet = record {
  others = but_named a.told b.told others;
  asked = asks_one IsNamed whole failed a b is counts quiet;
}
  where
    but_named : (old new : Option Files) → port.OthersStay whole old new → OtherNamesStay IsNamed old new
    but_named None new stays = stays
    but_named (Some files) None stays = absurd stays
    but_named (Some files) (Some more) stays = λ other not. stays other (λ e. not (subst IsNamed (sym e) is))

-- a dealt file's
pub refused_store : (name whole : List ℕ) (file : Stored) (failed : Bool) (a b : ShelfState) → whole ≡ name ++ ending file
    → port.OthersStay whole a.told b.told → CountsNames failed whole a.faults_of b.faults_of
    → (IsFalse failed → b.faults ≡ a.faults) → OnlyStores (IsDealName name) (change a b)
refused_store name whole file failed a b is = refused_of (IsDealName name) whole failed a b (file, is)
