-- What servers keep is a history of calls, whenever they are killed: demand 3 holds of it.
use mathlib.Core.Path.{refl}
use Prim.Native.Nat.{ℕ}
use Rattle.sets.specs.declared.scans.Scans.{Scans}
use Rattle.stores.specs.Stores.{Call, rests, History}
use Rattle.stores.specs.Safety as kept
use Rattle.stores.specs.Kills as server
use Rattle.stores.specs.Kills.{Servers, kept_of, Unkept, Step, Lives, Shows, Relies}
use Rattle.stores.proofs.Safety.{safe}

unkept-rests : {p a s : ℕ} {v v' : Servers} → Unkept v v' → Call p a s (kept_of v) (kept_of v')
unkept-rests u = rests u.proposers u.acceptors u.learners u.nothing

kept-call : {p a s : ℕ} {v v' : Servers} → Step p a s v v' → Call p a s (kept_of v) (kept_of v')
kept-call (server.kept c g) = c
kept-call (server.unkept c u) = unkept-rests u
kept-call (server.killed g u) = unkept-rests u

shown-kept : {v : Servers} {u : Scans} → Shows v u → kept.Given (kept_of v) u
shown-kept (server.learnt l n k) = kept.learnt l k
shown-kept (server.decided i n k) = kept.decided i k

-- demand 3 of servers that are killed, on the one condition that nothing is sent or shown that is not kept
pub kills-safe : {p a s : ℕ} (h : Lives p a s) → Relies h
kills-safe h =
    let k : History _ _ _ = record { stores = λ i. kept_of (h.servers i); begins = h.begins; calls = λ i. kept-call (h.steps i) } in
    record { history = k; kept = λ i. refl; safe = safe k; shown = λ i u. shown-kept }
