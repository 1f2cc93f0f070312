-- What a driver that counts keeps, and what holds of it.
use Rattle.counting_driver.specs.declared.driver.CountingDriver.TheInside.{Inside}
use Rattle.counting_driver.specs.CountingViews.{CountingView}
use Rattle.counting_driver.specs.CountingHistory.{AreCounted}

abbrev pub view_of : Inside → CountingView
view_of a = record { surface = a.surface; names = a.names; stop = a.stop; journal = a.journal.entries }

-- the names that are counted are all that were given
abbrev pub IsCounting : Inside → Type 0
IsCounting a = AreCounted (view_of a)
