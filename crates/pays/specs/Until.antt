-- A wait as far as a month: how it ended, or that it ends after the month.
use Rattle.std.specs.Prelude.{◌<◌, ℕ, Bool, None, Option, Some, ◌≡◌}
use Rattle.amounts.specs.Waits.{wait_of}
use Rattle.amounts.specs.declared.wait.Wait.{Wait}
use Rattle.amounts.specs.declared.wait.Wait.TheVariants.{Held, Missed}
use Rattle.language.specs.Payments.Pays.{Tried, hit, miss, tried}

-- the month in which a wait ends
abbrev pub end_of : Tried → ℕ
end_of (hit k) = k
end_of (miss k) = k

-- of a wait that was tried up to the month only
unfoldable pub until_of_short : Wait → Option Wait
until_of_short (Held k) = Some (Held k)
until_of_short (Missed k) = None

-- the wait of d months from month r on, as far as month m
abbrev pub UntilIs : (ℕ → Bool) → ℕ → ℕ → ℕ → Option Wait → Type 0
UntilIs t d r m (Some w) = w ≡ wait_of (tried t d r)
UntilIs t d r m None = m < end_of (tried t d r)
