-- A body that asks for memory.
use Rattle.std.proofs.Common.{◌≡◌, ℕ, ◌+◌, ◌*◌, ◌<◌, ◌≤◌, List, length, drop, ap, arith, inl, inr}
use Rattle.pg_base.proofs.ReadingLemmas.{one_number, number_fits}
use Rattle.pg_format.specs.Format.Parts.{be_u16}
use Rattle.pg_receive.specs.CountedItems.{ItemsNeedNoMemory}

-- a count of more items than have room in place, which the body holds, asks for memory
pub asks_for_memory : (least inline : ℕ) (body : List ℕ) (n : ℕ) → be_u16.Reads body n (drop 2 body) → 2 + least * n ≤ length body → inline < n → ¬ (ItemsNeedNoMemory least inline body)
asks_for_memory least inline body n counted holds more (inl short) = omega (arith, holds, short)
asks_for_memory least inline body n counted holds more (inr free) =
    let counts = one_number 2 body n free.count (drop 2 body) free.after counted free.counted in
    let needs : least * n ≡ least * free.count = ap (λ (k : ℕ). least * k) counts.0 in
    elim free.why [
      | inl fewer ↦ omega (arith, fewer, needs, holds, number_fits 2 body free.count free.after free.counted)
      | inr small ↦ omega (arith, small, counts.0, more)
    ]

-- what asks for memory for any items asks for it where there are more than have room in place
pub asks_for_more : (least inline : ℕ) (body : List ℕ) → ((count : ℕ) (rest : List ℕ) → be_u16.Reads body count rest → inline < count) → ¬ (ItemsNeedNoMemory least 0 body) → ¬ (ItemsNeedNoMemory least inline body)
asks_for_more least inline body more asks (inl short) = asks (inl short)
asks_for_more least inline body more asks (inr free) =
    elim free.why [
      | inl fewer ↦ asks (inr (record { count = free.count; after = free.after; counted = free.counted; why = inl fewer }))
      | inr small ↦ omega (arith, small, more free.count free.after free.counted)
    ]
