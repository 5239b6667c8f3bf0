-- An open listing beside the check and the full listing: document 02, N2, "what it hands out passes the check", and N6, "an open listing still agrees with the
-- full one". Each follows from what every call promises, the records of Demands and of OneByOne; proofs/Sequences has the theorems. Stands on both.
use Rattle.std.specs.Prelude.{◌≡◌, List, ◌++◌, ℕ, suc, ◌+◌, ◌<◌, ℤ, pos, length, take, drop, replicate}
use Rattle.packing.specs.Parse.{accepted}
use Rattle.derivation.specs.Heard.{output_length}
use Rattle.listing.specs.Demand3.{kth_bytes}
use Rattle.open_listing.specs.Open.{Blocks, opening, Search, Lent, asked}
use Rattle.open_calls.specs.OneByOne.{Returned, Next, Sequence, CallsInTurn}
use Rattle.spireyerba.specs.Demands.{Check, Listing}

-- "what it hands out passes the check": of the L bytes a front, of a graph "cut to its own length", passes every call of the check, and the rest are zeros
pub record Passes (b : Blocks) (l : Lent) (out' : List ℕ) : Type 0 where
  pub front : List ℕ
  pub zeros : ℕ
  pub length_is : length front + zeros ≡ output_length b.grammar b.heard
  pub written : out' ≡ (front ++ replicate zeros 0) ++ drop (output_length b.grammar b.heard) l.out
  pub passes : (code : ℤ) → Check l.grammar l.heard front code → code ≡ pos 0

-- so of every reading that is handed out, whatever place and table were
abbrev pub EveryReadingPasses : Type 0
EveryReadingPasses =
    (search : Search) (l : Lent) (r : Returned) (out' : List ℕ) → Next search l r out' → r.code ≡ pos 1
    → (b : Blocks) × (asked l ≡ accepted b) × Passes b l out'

-- "an open listing still agrees with the full one" (document 02, N6): of a call of the listing that answers m and of a sequence of calls over the same blocks,
-- the kth reading that is handed out is the kth of the list, byte for byte
abbrev pub EveryListAgrees : Type 0
EveryListAgrees =
    (search : Search) (s : Sequence) → CallsInTurn search s → (b : Blocks) → opening s.grammar s.heard (length (s.work 0)) ≡ accepted b
    → (N m : ℕ) (work out work' out' : List ℕ) → Listing s.grammar s.heard N work out (pos m) work' out'
    → (k : ℕ) → k < s.calls → s.code k ≡ pos 1 → (s.place k).handed < m
    → take (output_length b.grammar b.heard) (s.written k) ≡ kth_bytes (output_length b.grammar b.heard) (suc (s.place k).handed) out'
