mod Options
mod Ends
mod HexPairs
mod Pairs
mod Numbers
mod Bodies
mod Exact
