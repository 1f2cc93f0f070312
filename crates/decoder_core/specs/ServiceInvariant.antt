-- What a service holds.
use Rattle.std.specs.Prelude.{◌≡◌, None, IfSome}
use Rattle.cb_fetch.specs.Readable.{IsReadable}
use Rattle.decoder_core.specs.declared.service.Service.TheInside.{Inside}
use Rattle.decoder_core.specs.ServiceView.{ServiceView}

abbrev pub view_of : Inside → ServiceView
view_of a = record { fetch = a.fetcher; waiting = a.waiting; tables = a.tables; stop = a.stop }

-- the command that waits was read whole, and the fetcher goes on where the service does
pub record IsService (a : Inside) : Type 0 where
  pub readable : IfSome a.waiting IsReadable
  pub fetching : a.stop ≡ None → a.fetcher.stop ≡ None
