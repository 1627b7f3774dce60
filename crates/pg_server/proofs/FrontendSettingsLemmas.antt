-- Settings, one after the other.
use Rattle.std.proofs.Common.{◌≡◌, ◌≢◌, ℕ, Bool, true, false, List, [], ◌∷◌, ◌++◌, length, refl, sym, ap, ◌∙◌, arith}
use Rattle.std.specs.Prelude.{◌==◌}
use Rattle.std.proofs.lemmas.Bool.{eqb-true}
use Rattle.pg_base.specs.Reading.{HoldsNo, Text, BeginsWith}
use Rattle.pg_format.specs.Format.Lists.{AreRead}
use Rattle.pg_format.proofs.EndedTextsLemmas.{texts_in-none, texts_at}
use Rattle.pg_format.specs.Messages.{setting}
use Rattle.pg_server.specs.Frontend.Lists.{pairs_of, settings_in}

-- ---- what bytes hold

pub first_setting : (bytes name after value rest : List ℕ) → Text bytes name after → name ≢ [] → Text after value rest → settings_in bytes ≡ (name, value) ∷ settings_in rest
first_setting bytes [] after value rest p named q = absurd (named refl)
first_setting bytes (byte ∷ name) after value rest p named q = ap pairs_of (texts_at bytes (byte ∷ name) after p ∙ ap (λ texts. (byte ∷ name) ∷ texts) (texts_at after value rest q))

pub no_name : (bytes : List ℕ) → HoldsNo 0 bytes → settings_in bytes ≡ []
no_name bytes h = ap pairs_of (texts_in-none bytes h)

pub empty_name : (bytes after : List ℕ) → Text bytes [] after → settings_in bytes ≡ []
empty_name bytes after p = ap pairs_of (texts_at bytes [] after p)

pub no_value : (bytes name after : List ℕ) → Text bytes name after → HoldsNo 0 after → settings_in bytes ≡ []
no_value bytes [] after p h = empty_name bytes after p
no_value bytes (byte ∷ name) after p h = ap pairs_of (texts_at bytes (byte ∷ name) after p ∙ ap (λ texts. (byte ∷ name) ∷ texts) (texts_in-none after h))

-- settings that an empty name ends are those that the bytes hold
pub settings_in-read : (all : List (List ℕ × List ℕ)) (bytes mid rest : List ℕ) → AreRead setting bytes all mid → mid ≡ 0 ∷ rest → settings_in bytes ≡ all
settings_in-read [] bytes mid rest p e = empty_name bytes rest (record { clean = tt; parts = sym p ∙ e })
settings_in-read (s ∷ more) bytes mid rest p e =
    first_setting bytes s.0 p.1.0.mid s.1 p.0 p.1.0.first p.1.1 p.1.0.second ∙ ap (λ (l : List (List ℕ × List ℕ)). s ∷ l) (settings_in-read more p.0 mid rest p.2 e)

-- ---- one after the other

pub read_one_more : (so_far : List (List ℕ × List ℕ)) (s : List ℕ × List ℕ) (x y z : List ℕ) → AreRead setting x so_far y → setting.Reads y s z → AreRead setting x (so_far ++ s ∷ []) z
read_one_more [] s x y z p q = (z, rw p at q, refl)
read_one_more (first ∷ so_far) s x y z p q = (p.0, p.1, read_one_more so_far s p.0 y z p.2 q)

-- a name that isn't empty begins with no NUL
pub named : (bytes name after : List ℕ) → Text bytes name after → name ≢ [] → ¬ (BeginsWith 0 bytes)
named bytes [] after p other e = other refl
named [] (c ∷ name) after p other e = e
named (b ∷ bytes) (c ∷ name) after p other e = p.clean.0 (let heads : b ≡ c = cc (p.parts) in sym heads ∙ e)

-- ---- whether a name is empty

pub is_nothing : (bytes : List ℕ) (b : Bool) → b ≡ (length bytes == 0) → b ≡ true → bytes ≡ []
is_nothing [] b e t = refl
is_nothing (byte ∷ bytes) b e t = let none : length (byte ∷ bytes) ≡ 0 = eqb-true (length (byte ∷ bytes)) 0 (sym e ∙ t) in absurd (omega (arith, none))

pub is_something : (bytes : List ℕ) (b : Bool) → b ≡ (length bytes == 0) → b ≡ false → bytes ≢ []
is_something [] b e f = λ _. let clash : true ≡ false = sym e ∙ f in absurd cc
is_something (byte ∷ bytes) b e f = λ nothing. absurd (cc nothing)

-- the first setting, whose name isn't empty
pub first_named : (bytes name after value rest : List ℕ) (b : Bool) → Text bytes name after → b ≡ (length name == 0) → b ≡ false → Text after value rest → settings_in bytes ≡ (name, value) ∷ settings_in rest
first_named bytes name after value rest b p e f q = first_setting bytes name after value rest p (is_something name b e f) q
