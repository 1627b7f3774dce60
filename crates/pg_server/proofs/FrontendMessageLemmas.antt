-- One part of a body after the other.
use Rattle.std.proofs.Common.{◌≡◌, ℕ, ◌-◌, List, [], length, take, drop, refl, ap, subst, arith, length-drop}
use Rattle.std.proofs.lemmas.List.{take_all, drop_all}
use Rattle.pg_base.specs.declared.error.ProtocolFault.{ProtocolFault}
use Rattle.pg_base.specs.declared.error.ProtocolFault.TheVariants.{TrailingBytes}
use Rattle.pg_format.specs.Format.{Format}
use Rattle.pg_format.specs.Format.Ends.{Trails, exactly}
use Rattle.pg_format.specs.Format.Places.{IsReadAt}
use Rattle.pg_format.specs.Format.Sequences.{BreaksAfter, ◌⨾◌}
use Rattle.pg_server.specs.declared.frontend.error.FrontendFault.{FrontendFault}
use Rattle.pg_server.specs.Frontend.Error.{IsOnPage, TrailsAt}

-- a slice from an index on
pub from_index : (n : ℕ) (bytes : List ℕ) → take (length bytes - n) (drop n bytes) ≡ drop n bytes
from_index n bytes = take_all (length bytes - n) (drop n bytes) (omega (arith, length-drop n bytes))

-- a part, and what can't be read after it
pub after : {A : Type 0} {g : Format A} {Next : A → ℕ → List ℕ → ProtocolFault → Type 0} {body : List ℕ} {at end : ℕ} {a : A} {fault : ProtocolFault}
    → IsReadAt g body at a end → Next a (length body) (drop end body) fault → BreaksAfter g Next (length body) (drop at body) fault
after {body = body} {end = end} {a = a} p q = record { value = a; mid = drop end body; reads = p.reads; breaks = q }

-- a part, and another
infixr 5 ◌then◌
pub ◌then◌ : {A B : Type 0} {g : Format A} {h : Format B} {body : List ℕ} {at mid end : ℕ} {a : A} {b : B}
    → IsReadAt g body at a mid → IsReadAt h body mid b end → IsReadAt (g ⨾ h) body at (a, b) end
◌then◌ {body = body} {mid = mid} p q = record { within = q.within; reads = record { mid = drop mid body; first = p.reads; second = q.reads } }

-- what ends where the body does is the whole body
pub whole : {A : Type 0} {g : Format A} {body : List ℕ} {end : ℕ} {a : A} → IsReadAt g body 0 a end → end ≡ length body → (exactly g).Reads body a []
whole {g = g} {body = body} {end = end} {a = a} p is = (subst (λ (rest : List ℕ). g.Reads body a rest) (drop_all end body (omega (arith, is))) p.reads, refl)

-- bytes that follow the end, as the page has them
pub trailing : (body : List ℕ) (at : ℕ) (fault : FrontendFault) → TrailsAt body at fault
    → (on_page : ProtocolFault) × IsOnPage fault on_page × Trails (length body) (drop at body) on_page
trailing body at fault p =
    let place : at ≡ length body - length (drop at body) = omega (arith, p.some, length-drop at body) in
    (TrailingBytes at, rw p.is refl, record { some = omega (arith, p.some, length-drop at body); is = ap TrailingBytes place })
