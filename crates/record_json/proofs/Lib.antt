mod Hosts
mod HostsRead
mod Order
mod Pages
mod StatusesRead
mod Values
