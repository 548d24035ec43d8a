mod Commands
mod Getters
mod Laws
mod Sessions
mod OutputModes
